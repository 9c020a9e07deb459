-- `kinds::has_kinds_left` meets its contract: what is left answers as the whole does; each step goes on within the set, which is the measure.
use Prim.Native.Nat.{ℕ, ◌-◌}
use Rattle.std.specs.Prelude.{Ok}
use mathlib.Core.Path.{◌≡◌, sym, ap, ◌∙◌, subst}
use mathlib.Core.Bool.{Bool, true, false}
use mathlib.Core.List.{List, []}
use native.Mathlib.Omega.{arith}
use borrow.Author.Rules.{rules}
use lib.ListN.{length}
use Rattle.spec_patch.specs.Patch.{Patch}
use Rattle.spec_patch.specs.Edition.{Edition}
use Rattle.spec_patch.specs.Write.{value_passes}
use Rattle.spec_conversion.specs.Conversion.{kind_in, all_kinds}
use Rattle.projection_patch.specs.Meaning.{edition_of}
use Rattle.projection_patch.specs.ReadAnswers.{lent_from}
use Rattle.patch_walk.specs.Steps.{StepWithin, AtSteps}
use Rattle.patch_walk.proofs.StepsLaws.{Visited, visited, opened, done, never_refused}
use Rattle.patch_walk.specs.Steps.{StepAnswer}
use Rattle.patch_converter.proofs.KindsLeft.{KindsLeft, kinds_start, kinds_head, kinds_next, kinds_missing, kinds_end}
use mathlib.Core.Path.{ap}
use Rattle.patch_converter.proofs.kinds.has_kinds_left.Goals as goal
use Rattle.patch_converter.proofs.kinds.has_kinds_left.Goals.{After-has_kind_of, After-next_step}

abbrev set : After-next_step → List ℕ
set c = c.args.set.now

abbrev from : After-next_step → Edition
from c = edition_of c.args.from

-- the operation that was asked about
seen : (k : After-has_kind_of) (whole : Bool) (l : KindsLeft ((edition_of k.args.from)) ((edition_of k.args.to)) ((k.args.set.now)) k.loop-next.cursor whole)
    → Visited ((edition_of k.args.from)) ((k.args.set.now)) k.loop-next.cursor l.os l.ps k.in-Ok-Operation.operation k.in-Ok-Operation.next
seen k whole l = visited false ((edition_of k.args.from)) ((k.args.set.now)) k.loop-next.cursor l.here k.next_step.ensures.is _ _ (k.in-Ok-Operation.is ∙ ap Ok k.in-Ok-Operation.field-0-is)

asked : (k : After-has_kind_of) (whole : Bool) (l : KindsLeft ((edition_of k.args.from)) ((edition_of k.args.to)) ((k.args.set.now)) k.loop-next.cursor whole)
    → value_passes (kind_in ((edition_of k.args.to))) (seen k whole l).first ≡ k.has_kind_of.result
asked k whole l = sym (k.has_kind_of.ensures (lent_from ((k.args.set.now)) k.loop-next.cursor.at) ∙ ap (value_passes (kind_in ((edition_of k.args.to)))) (seen k whole l).means)

pub loop-next-preserved-in-Ok-Head : goal.loop-next-preserved-in-Ok-Head
loop-next-preserved-in-Ok-Head c =
    λ ps h. let l = c.loop-next.invariant ps h in kinds_head l (opened false (from (goal.at.loop-next-preserved-in-Ok-Head c).After-next_step) (set (goal.at.loop-next-preserved-in-Ok-Head c).After-next_step) c.loop-next.cursor l.here c.next_step.ensures.is _ _ (c.in-Ok-Head.is ∙ ap Ok c.in-Ok-Head.field-0-is))

pub returns-then-not-has_kind_of : goal.returns-then-not-has_kind_of
returns-then-not-has_kind_of c =
    λ ps h. let l = c.loop-next.invariant ps h in kinds_missing l (seen (goal.at.returns-then-not-has_kind_of c).After-has_kind_of _ l) (asked (goal.at.returns-then-not-has_kind_of c).After-has_kind_of _ l ∙ c.if-not-has_kind_of.true)

pub loop-next-preserved : goal.loop-next-preserved
loop-next-preserved c =
    λ ps h. let l = c.loop-next.invariant ps h in kinds_next l (seen (goal.at.loop-next-preserved c).After-has_kind_of _ l) (asked (goal.at.loop-next-preserved c).After-has_kind_of _ l ∙ c.if-not-has_kind_of.false)

pub returns-in-Ok-End : goal.returns-in-Ok-End
returns-in-Ok-End c =
    λ ps h. let l = c.loop-next.invariant ps h in kinds_end l (done false (from (goal.at.returns-in-Ok-End c).After-next_step) (set (goal.at.returns-in-Ok-End c).After-next_step) c.loop-next.cursor l.here c.next_step.ensures.is (c.in-Ok-End.is ∙ ap Ok c.in-Ok-End.field-0-is))

pub returns-in-Err : goal.returns-in-Err
returns-in-Err c =
    λ ps h. let l = c.loop-next.invariant ps h in absurd (never_refused false (from (goal.at.returns-in-Err c).After-next_step) (set (goal.at.returns-in-Err c).After-next_step) c.loop-next.cursor l.here c.next_step.ensures.is _ c.in-Err.is)
