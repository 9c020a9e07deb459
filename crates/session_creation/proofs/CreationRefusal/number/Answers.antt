-- `CreationRefusal::number` meets its contract.
use mathlib.Core.Path.{refl}
use Rattle.session_creation.proofs.CreationRefusal.number.Goals as goal

pub returns : goal.returns
returns c = refl
