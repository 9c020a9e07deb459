-- `reject` meets its contract.
use mathlib.Core.Path.{ap}
use Rattle.spec_session.specs.Diagnostics.{Diagnostics}
use Rattle.spec_session.specs.Lifecycle.{rejected, reject_lifecycle, state_of}
use Rattle.session_lifecycle.specs.Meaning.{shell_state_of, disposition_means}
use Rattle.session_lifecycle.proofs.lifecycle.reject.Goals as goal

pub returns : goal.returns
unfolding reject_lifecycle state_of disposition_means
returns c = ap (λ (d : Diagnostics). record { disposition = rejected; state = shell_state_of c.args.previous; stimulus_bytes = c.args.bytes; diagnostics = d }) c.apply_diagnostic_cap.ensures
