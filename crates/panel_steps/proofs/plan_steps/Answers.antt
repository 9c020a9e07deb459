-- `plan_steps` meets its contract: what is left, from the plan that is stored now, gives what the whole run gives; the measure is the bytes left.
use Prim.Native.Nat.{ℕ, ◌+◌, ◌-◌, ◌≤◌}
use mathlib.Core.Path.{◌≡◌, refl, sym, ap, ◌∙◌}
use mathlib.Core.Bool.{false}
use mathlib.Core.List.{List, []}
use native.Mathlib.Omega.{arith}
use borrow.Author.Rules.{rules}
use lib.ListN.{length}
use Rattle.spec_patch.specs.Sizes.{projection_entries}
use Rattle.spec_patch.specs.Edition.{Edition}
use Rattle.spec_patch.specs.Patch.{Patch}
use Rattle.spec_projection.specs.Projection.{Projection}
use Rattle.spec_projection.specs.Valid.{Valid}
use Rattle.projection_patch.specs.Widths.{past_neighbour}
use Rattle.projection_patch.specs.Meaning.{edition_of, operation_of}
use Rattle.patch_walk.specs.Steps.{step_answer, AtSteps}
use Rattle.patch_walk.proofs.StepsLaws.{visited, opened, done as all_done, never_refused}
use Rattle.panel_plan.specs.Plan.{plan_of}
use Rattle.panel_plan.specs.PlanRows.{StoredPlan}
use Rattle.panel_steps.proofs.Running.{offset_small, operation_within, opened_within, Running, Turned, turned_on, turned_stop, run_start, run_opened, run_ended, never_unread, some_operation, fits_planned, run_turn}
use Rattle.std.specs.Prelude.{Ok, Some}
use Rattle.panel_steps.specs.Runs.{run_head}
use borrow.Enum.Refused.{opened as one_of}
use Rattle.panel_steps.proofs.plan_steps.Goals as goal
use Rattle.panel_steps.proofs.plan_steps.Goals.{After-apply_operation, After-value_offset, At-loop-cursor, In-Some}

abbrev edition : At-loop-cursor → Edition
edition k = edition_of k.args.edition

-- the operation ends in the set
inside : (c : After-value_offset) → c.loop-cursor.cursor.at + c.value_offset.result ≤ length c.args.set.now + past_neighbour
inside c =
    let within = operation_within c.loop-cursor.cursor (length c.args.set.now) _ _ (c.in-Ok-Operation.is ∙ ap Ok c.in-Ok-Operation.field-0-is) c.next_step.ensures.within in
    omega (arith, within.0, within.1, c.value_offset.ensures, offset_small (operation_of [] c.in-Ok-Operation.operation))

-- the operation's turn, whatever its answer
turn : (k : After-apply_operation) (p : Projection) (ps : List Patch) → Running (edition (goal.at.After-apply_operation k).At-loop-cursor) p ps k.args.set.now k.loop-cursor.cursor k.loop-cursor.held k.loop-cursor.bindings k.loop-cursor.availability k.loop-cursor.entries
    → Turned (edition (goal.at.After-apply_operation k).At-loop-cursor) p ps k.args.set.now k.loop-cursor.cursor k.in-Ok-Operation.next k.loop-cursor.held k.loop-cursor.bindings k.loop-cursor.availability k.loop-cursor.entries k.apply_operation.new.bindings k.apply_operation.new.availability k.apply_operation.new.entries k.apply_operation.result
turn k p ps run =
    let seen = visited false (edition (goal.at.After-apply_operation k).At-loop-cursor) k.args.set.now k.loop-cursor.cursor run.walk.here k.next_step.ensures.is _ _ (k.in-Ok-Operation.is ∙ ap Ok k.in-Ok-Operation.field-0-is) in
    let is = ap (λ (n : ℕ). projection_entries + (k.loop-cursor.cursor.at + n)) k.value_offset.ensures in
    let within = operation_within k.loop-cursor.cursor (length k.args.set.now) _ _ (k.in-Ok-Operation.is ∙ ap Ok k.in-Ok-Operation.field-0-is) k.next_step.ensures.within in
    let small = offset_small (operation_of [] k.in-Ok-Operation.operation) in
    run_turn run seen is k.apply_operation.new.bindings k.apply_operation.new.availability k.apply_operation.new.entries k.apply_operation.result
    (k.apply_operation.ensures.made _ run.planned.plan run.planned.stored (fits_planned run seen is (omega (arith, within.0, within.1, small, k.value_offset.ensures, k.requires))))

pub loop-cursor-init : goal.loop-cursor-init
loop-cursor-init c = (refl, refl, refl, λ p ps v s h. run_start ps v s h)

-- the head that was passed
passed : (c : In-Some) → Ok (Some c.in-Some.next) ≡ run_head (step_answer false (edition (goal.at.In-Some c).At-loop-cursor) c.loop-cursor.cursor c.args.set.now)
passed c = sym (c.in_ok-next.was ∙ ap Ok c.in-Some.is) ∙ c.next_head.ensures.is

pub loop-cursor-smaller-then-cursor-eq0 : goal.loop-cursor-smaller-then-cursor-eq0
loop-cursor-smaller-then-cursor-eq0 c =
    let within = opened_within c.loop-cursor.cursor (length c.args.set.now) _ _ (passed (goal.at.loop-cursor-smaller-then-cursor-eq0 c).In-Some) c.next_head.ensures.within in
    omega (arith, within.0, within.1)

pub loop-cursor-preserved-then-cursor-eq0 : goal.loop-cursor-preserved-then-cursor-eq0
loop-cursor-preserved-then-cursor-eq0 c =
    (c.loop-cursor.invariant.0, c.loop-cursor.invariant.1, c.loop-cursor.invariant.2, λ p ps v s h. run_opened (c.loop-cursor.invariant.3 p ps v s h) (passed (goal.at.loop-cursor-preserved-then-cursor-eq0 c).In-Some))

pub returns-in_default : goal.returns-in_default
returns-in_default c =
    λ p ps v s h. run_ended (c.loop-cursor.invariant.3 p ps v s h) (sym (c.in_ok-next.was ∙ ap Ok c.in_default.is) ∙ c.next_head.ensures.is)

pub returns-in_err-next : goal.returns-in_err-next
returns-in_err-next c =
    λ p ps v s h. absurd (never_unread (c.loop-cursor.invariant.3 p ps v s h) c.if-cursor-eq0.true (sym c.in_err-next.was ∙ c.next_head.ensures.is))

-- where operations are left, an operation stands there
pub returns-in-Ok-Head : goal.returns-in-Ok-Head
returns-in-Ok-Head c =
    λ p ps v s h. absurd (c.if-cursor-eq0.false (sym (c.loop-cursor.invariant.3 p ps v s h).walk.here.operations ∙ ap length (opened false _ _ _ (c.loop-cursor.invariant.3 p ps v s h).walk.here c.next_step.ensures.is _ _ (c.in-Ok-Head.is ∙ ap Ok c.in-Ok-Head.field-0-is)).none))

pub returns-in-Ok-End : goal.returns-in-Ok-End
returns-in-Ok-End c =
    λ p ps v s h. absurd (c.if-cursor-eq0.false (sym (c.loop-cursor.invariant.3 p ps v s h).walk.here.operations ∙ ap length (all_done false _ _ _ (c.loop-cursor.invariant.3 p ps v s h).walk.here c.next_step.ensures.is (c.in-Ok-End.is ∙ ap Ok c.in-Ok-End.field-0-is)).0))

pub overflow_add-at : goal.overflow_add-at
overflow_add-at c = omega (arith, inside (goal.at.overflow_add-at c).After-value_offset, c.requires)

pub overflow_add-source : goal.overflow_add-source
overflow_add-source c = omega (arith, inside (goal.at.overflow_add-source c).After-value_offset, c.requires)

pub loop-cursor-smaller : goal.loop-cursor-smaller
loop-cursor-smaller c =
    let within = operation_within c.loop-cursor.cursor (length c.args.set.now) _ _ (c.in-Ok-Operation.is ∙ ap Ok c.in-Ok-Operation.field-0-is) c.next_step.ensures.within in
    omega (arith, within.0, within.1)

pub loop-cursor-preserved : goal.loop-cursor-preserved
loop-cursor-preserved c =
    (search (rules, c.apply_operation.auto.bindings, c.loop-cursor.invariant.0), search (rules, c.apply_operation.auto.availability, c.loop-cursor.invariant.1), search (rules, c.apply_operation.auto.entries, c.loop-cursor.invariant.2), λ p ps v s h. turned_on (turn (goal.at.loop-cursor-preserved c).After-apply_operation p ps (c.loop-cursor.invariant.3 p ps v s h)) c.in-Ok.is)

pub returns-in-Err : goal.returns-in-Err
returns-in-Err c =
    λ p ps v s h. absurd (never_refused false _ _ _ (c.loop-cursor.invariant.3 p ps v s h).walk.here c.next_step.ensures.is _ c.in-Err.is)

pub returns-in-Err-apply_operation : goal.returns-in-Err-apply_operation
returns-in-Err-apply_operation c =
    λ p ps v s h. turned_stop (turn (goal.at.returns-in-Err-apply_operation c).After-apply_operation p ps (c.loop-cursor.invariant.3 p ps v s h)) c.in-Err-apply_operation.is c.apply_operation.ensures.kept
