-- `ShellSession::lifecycle` meets its contract.
use mathlib.Core.Path.{refl, ap}
use Rattle.spec_session.specs.Lifecycle.{LocalState, state_of}
use Rattle.shell_player.proofs.session.ShellSession.lifecycle.Goals as goal

pub returns : goal.returns
unfolding state_of
returns c = record { whatever = refl; holding = λ m h. ap (λ (t : LocalState). t.lifecycle) h.state }
