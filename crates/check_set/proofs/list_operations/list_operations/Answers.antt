-- `check_set::list_operations::list_operations` meets its contract: what is left makes of the table what the whole makes of the first; the measure is the operations left.
use borrow.Enum.Refused.{opened as one_of}
use Prim.Native.Nat.{ℕ, ◌+◌, ◌*◌, ◌≤◌, ◌<◌}
use mathlib.Core.Path.{◌≡◌, refl, sym, ap, ◌∙◌, subst}
use mathlib.Core.Bool.{false}
use mathlib.Core.List.{List, []}
use native.Mathlib.Omega.{arith}
use lib.ListN.{length, take}
use Rattle.spec_lists.proofs.BytesLaws.{bytes_of}
use Rattle.spec_patch.specs.Patch.{Operation, Patch}
use Rattle.spec_patch.specs.Edition.{Edition}
use Rattle.projection_patch.specs.Meaning.{edition_of}
use Rattle.patch_walk.specs.Steps.{AtSteps}
use Rattle.patch_walk.specs.CountLaws.{StepCounts, step_counts}
use Rattle.patch_walk.specs.Steps.{StepAnswer}
use Rattle.std.specs.Prelude as code
use Rattle.check_set.proofs.Stands.{operation_stands}
use Rattle.patch_walk.specs.declared.SetStep.TheVariants as set-step
use Rattle.check_targets.specs.Targets.{check_target_of}
use Rattle.check_targets.specs.TargetsLaws.{with_target_front, with_target_length}
use Rattle.check_targets.specs.Marks.{Marked}
use Rattle.check_targets.specs.MarksLaws.{marked_none}
use Rattle.check_set.proofs.OperationRuns.{OperationRun, operation_run_start, operation_run_turn, operation_run_end}
use borrow.Author.Rules.{rules}
use Rattle.check_set.proofs.list_operations.list_operations.Goals as goal
use Rattle.check_set.proofs.list_operations.list_operations.Goals.{After-next_step, At-loop-cursor, Start}

abbrev set : After-next_step → List ℕ
set c = c.args.set.now

abbrev edition : After-next_step → Edition
edition c = edition_of c.args.edition

counts : (c : After-next_step) (r : StepAnswer) → c.next_step.result ≡ r → StepCounts c.loop-cursor.cursor r
counts c r q =
    subst (StepCounts c.loop-cursor.cursor) (sym c.next_step.ensures.is ∙ q)
    (step_counts false (edition c) (set c) (bytes_of (set c) (λ j. (c.type_inv.set j).fits)) c.loop-cursor.cursor)

-- an operation is left
some_left : (c : After-next_step) → 0 < c.loop-cursor.cursor.operations_left
some_left c = c.loop-cursor-test.true

-- the targets have a length that a number holds
long : (c : Start) → length c.args.targets.now < 18446744073709551616
long c = search rules

-- there are as many marks as at the start
marks-long : (c : At-loop-cursor) → length c.loop-cursor.marks ≡ length c.args.marks.now
marks-long c = c.loop-cursor.invariant.1.1.1.1.1.0.long ∙ sym c.requires.1

pub loop-cursor-init : goal.loop-cursor-init
loop-cursor-init c =
    (omega arith, (omega arith, (refl, (refl, (refl, (marked_none c.args.marks.now c.requires.1, λ os ps here. operation_run_start _ _ _ os ps _ _ _ _ here))))))

pub loop-cursor-smaller : goal.loop-cursor-smaller
loop-cursor-smaller c = omega (arith, (counts (goal.at.loop-cursor-smaller c).After-next_step _ (c.in-Ok.is ∙ ap code.Ok c.in-Operation.is)).0)

pub loop-cursor-preserved : goal.loop-cursor-preserved
loop-cursor-preserved c =
    let room : c.loop-cursor.used + 3 ≤ length c.loop-cursor.targets = omega (arith, some_left (goal.at.loop-cursor-preserved c).After-next_step) in
    let long = ap length c.seen_by_mark-seen.ensures.kept ∙ with_target_length c.loop-cursor.used _ c.loop-cursor.targets room in
    let front = ap (take (c.loop-cursor.used + 3)) c.seen_by_mark-seen.ensures.kept ∙ with_target_front c.loop-cursor.used (check_target_of c.mutation_target-target.result) c.loop-cursor.targets room in
    let n = counts (goal.at.loop-cursor-preserved c).After-next_step _ (c.in-Ok.is ∙ ap code.Ok c.in-Operation.is) in (
      omega (arith, long, n.0),
      (
        omega (arith, n.0),
        (
          omega (arith, long),
          (
            search rules,
            (
              n.1 ∙ c.loop-cursor.invariant.1.1.1.1.0,
              (
                rw front c.seen_by_mark-seen.ensures.marked,
                λ os ps here. operation_run_turn _ _ _ os ps _ _ (c.loop-cursor.invariant.1.1.1.1.1.1 os ps here) c.next_step.ensures.is _ _ (c.in-Ok.is ∙ ap code.Ok c.in-Operation.is) _ _ _ _ _ _ room (c.mutation_target-target.ensures []) (c.before_self-before_self.ensures []) c.seen_by_mark-seen.ensures.seen c.seen_by_mark-seen.ensures.kept (c.insert_operation-kept.ensures.counted, c.insert_operation-kept.ensures.numbers),
              ),
            ),
          ),
        ),
      ),
    )

pub returns-after-loop-cursor-clause-listed : goal.returns-after-loop-cursor-clause-listed
returns-after-loop-cursor-clause-listed c = λ os ps here. operation_run_end _ _ _ os ps _ _ (c.loop-cursor.invariant.1.1.1.1.1.1 os ps here) c.loop-cursor-test.false

pub returns-in_default-clause-listed : goal.returns-in_default-clause-listed
returns-in_default-clause-listed c =
    λ os ps here. let s = operation_stands false (edition_of c.args.edition) c.args.set.now c.loop-cursor.cursor _ ps (c.loop-cursor.invariant.1.1.1.1.1.1 os ps here).here c.loop-cursor-test.true in
    let z : ◌≡◌ {A = ℕ} 0 1 = cc (sym c.in_default.is ∙ c.next_step.ensures.is ∙ s.2) in absurd (omega arith)

pub returns-in_default-step : goal.returns-in_default-step
returns-in_default-step c =
    record {
      listed = λ os ps here.
          let s = operation_stands false (edition_of c.args.edition) c.args.set.now c.loop-cursor.cursor _ ps (c.loop-cursor.invariant.1.1.1.1.1.1 os ps here).here c.loop-cursor-test.true in
          let same : c.in-Ok.step ≡ set-step.Operation s.0 s.1 = cc (sym c.in-Ok.is ∙ c.next_step.ensures.is ∙ s.2) in
          absurd (c.in_default-step.not-Operation _ _ same);
      patches = c.loop-cursor.invariant.1.1.1.1.0;
    }
