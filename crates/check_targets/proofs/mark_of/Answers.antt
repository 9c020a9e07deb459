-- `check_targets::mark_of` meets its contract.
use mathlib.Core.Path.{refl}
use Rattle.check_targets.specs.Marks.{mark_of}
use Rattle.check_targets.proofs.mark_of.Goals as goal

pub returns : goal.returns
unfolding mark_of
returns c = refl
