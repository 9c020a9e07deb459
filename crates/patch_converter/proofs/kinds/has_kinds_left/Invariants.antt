use Prim.Native.Nat.{ℕ, ◌-◌}
use mathlib.Core.Path.{◌≡◌, sym, ap, ◌∙◌, subst}
use mathlib.Core.Bool.{Bool, true, false}
use mathlib.Core.List.{List, []}
use native.Mathlib.Omega.{arith}
use borrow.Author.Rules.{rules}
use lib.ListN.{length}
use Rattle.spec_patch.specs.Patch.{Patch}
use Rattle.spec_patch.specs.Edition.{Edition}
use Rattle.spec_patch.specs.Write.{value_passes}
use Rattle.spec_conversion.specs.Conversion.{kind_in, all_kinds}
use Rattle.projection_patch.specs.Meaning.{edition_of}
use Rattle.projection_patch.specs.ReadAnswers.{lent_from}
use Rattle.patch_walk.specs.Steps.{StepWithin, AtSteps}
use Rattle.patch_walk.proofs.StepsLaws.{Visited, visited, opened, done, never_refused}
use Rattle.patch_converter.proofs.KindsLeft.{KindsLeft, kinds_start, kinds_head, kinds_next, kinds_missing, kinds_end}
use mathlib.Core.Path.{ap}
use Rattle.patch_converter.proofs.kinds.has_kinds_left.Given as goal

abbrev pub invariant-loop-next : goal.invariant-loop-next
invariant-loop-next l = (ps : List Patch) → AtSteps (edition_of l.from) l.set l.initial.cursor [] ps → KindsLeft (edition_of l.from) (edition_of l.to) l.set l.cursor (all_kinds (edition_of l.to) ps)

abbrev pub decreases-loop-next : goal.decreases-loop-next
decreases-loop-next l = length l.set - l.cursor.at
