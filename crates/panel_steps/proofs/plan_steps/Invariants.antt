use Prim.Native.Nat.{ℕ, ◌+◌, ◌-◌, ◌≤◌}
use mathlib.Core.Path.{◌≡◌, refl, sym, ap, ◌∙◌}
use mathlib.Core.Bool.{false}
use mathlib.Core.List.{List, []}
use native.Mathlib.Omega.{arith}
use borrow.Author.Rules.{rules}
use lib.ListN.{length}
use Rattle.spec_patch.specs.Sizes.{projection_entries}
use Rattle.spec_patch.specs.Edition.{Edition}
use Rattle.spec_patch.specs.Patch.{Patch}
use Rattle.spec_projection.specs.Projection.{Projection}
use Rattle.spec_projection.specs.Valid.{Valid}
use Rattle.projection_patch.specs.Widths.{past_neighbour}
use Rattle.projection_patch.specs.Meaning.{edition_of, operation_of}
use Rattle.patch_walk.specs.Steps.{step_answer, AtSteps}
use Rattle.patch_walk.proofs.StepsLaws.{visited}
use Rattle.panel_plan.specs.Plan.{plan_of}
use Rattle.panel_plan.specs.PlanRows.{StoredPlan}
use Rattle.panel_steps.proofs.Running.{offset_small, operation_within, opened_within, Running, Turned, turned_on, turned_stop, run_start, run_opened, run_ended, some_operation, fits_planned, run_turn}
use borrow.Enum.Refused.{opened as one_of}
use Rattle.panel_steps.proofs.plan_steps.Given as goal

abbrev pub invariant-loop-cursor : goal.invariant-loop-cursor
invariant-loop-cursor l =
    (length l.bindings ≡ length l.initial.bindings) × (length l.availability ≡ length l.initial.availability) × (length l.entries ≡ length l.initial.entries)
    × ((p : Projection) (ps : List Patch) → Valid p → StoredPlan l.initial.held l.initial.bindings l.initial.availability l.initial.entries (plan_of p) → AtSteps (edition_of l.edition) l.set l.initial.cursor [] ps
    → Running (edition_of l.edition) p ps l.set l.cursor l.held l.bindings l.availability l.entries)

abbrev pub decreases-loop-cursor : goal.decreases-loop-cursor
decreases-loop-cursor l = length l.set - l.cursor.at
