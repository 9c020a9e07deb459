-- `is_empty` meets its contract.
use mathlib.Core.Path.{refl}
use Rattle.session_steps.proofs.checks.is_empty.Goals as goal

pub returns : goal.returns
returns c = refl
