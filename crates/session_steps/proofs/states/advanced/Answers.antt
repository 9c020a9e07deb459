-- `advanced` meets its contract.
use mathlib.Core.Path.{refl}
use Rattle.session_lifecycle.specs.Meaning.{cursor_of}
use Rattle.session_steps.proofs.states.advanced.Goals as goal

pub returns : goal.returns
unfolding cursor_of
returns c = refl
