-- Tables whose rows are cleared have none, and a plan starts in tables that have none.
use Rattle.std.specs.Prelude.{ℕ, ◌+◌, ◌-◌, ◌*◌, ◌≤◌, ◌≡◌, refl, List, [], ◌++◌, length, drop, Result, Err}
use Rattle.std.proofs.Common.{sym, ap, subst, ◌∙◌, mul-le-mul_right, arith}
use Rattle.std.proofs.lemmas.List.{replicate-append-replicate}
use Rattle.spec_patch.specs.Sizes.{projection_bindings, projection_entries}
use Rattle.spec_projection.specs.Projection.{Projection}
use Rattle.bytes_records.specs.Moves.{zeros}
use Rattle.spec_explain.specs.Walk.{Halt, Walk, through, halted}
use Rattle.local_projection_state.specs.Stores.{Stored}
use Rattle.local_projection_state.specs.declared.ProjectionCounts.{ProjectionCounts}
use Rattle.panel_plan.specs.PlanRows.{planned_binding_row, planned_binding_width, planned_entry_row, planned_entry_width, PlannedBindings, PlannedEntries}
use Rattle.patch_walk.specs.declared.SetCursor.{SetCursor}
use Rattle.local_projection_state.specs.declared.LocalProjectionApplicationError.{LocalProjectionApplicationError}
use Rattle.panel_steps.specs.Runs.{RunWalked}
use Rattle.panel_steps.specs.declared.PlanStop.{PlanStop}
use Rattle.panel_steps.specs.declared.PlanStop.TheVariants as plan
use Rattle.panel_writing.specs.Writing.{ClearBehind}
use Rattle.panel_changes.specs.PlanMemory.{PlanTables, ClearPlan, no_plan}
use Rattle.panel_changes.specs.SetChangesLaws.{none_stored}

pub no_plan_clear : ClearPlan no_plan
no_plan_clear = record { bindings = refl; availability = refl; entries = refl }

-- ---- a plan starts in them

module _ {t : PlanTables} (clear : ClearPlan t) where
  pub no_bindings : PlannedBindings 0 t.bindings []
  no_bindings = subst (λ (l : List ℕ). PlannedBindings 0 l []) (sym clear.bindings) (none_stored planned_binding_row planned_binding_width projection_bindings)

  pub no_entries : PlannedEntries 0 t.entries []
  no_entries = subst (λ (l : List ℕ). PlannedEntries 0 l []) (sym clear.entries) (none_stored planned_entry_row planned_entry_width projection_entries)

-- ---- and is cleared

pub cleared_table : (count width : ℕ) (table : List ℕ) → count * width ≤ length table → ClearBehind count width table → zeros (count * width) ++ drop (count * width) table ≡ zeros (length table)
cleared_table count width table room clear =
    ap (λ (l : List ℕ). zeros (count * width) ++ l) clear ∙ replicate-append-replicate (count * width) (length table - count * width) 0
    ∙ (let all : count * width + (length table - count * width) ≡ length table = omega (arith, room) in ap zeros all)

pub stored_room : {A : Type 0} {row : A → List ℕ} {width capacity count : ℕ} {table : List ℕ} {l : List A} → Stored row width capacity count table l → count ≤ capacity → count * width ≤ length table
stored_room {width = width} {capacity = capacity} {count = count} s few = omega (arith, s.size, mul-le-mul_right {m = count} {n = capacity} width few)

-- a run that was refused left the rows of a plan
module _ (P : ProjectionCounts → Projection → Type 0) (H : SetCursor → Halt Projection → Type 0) {r : Result ProjectionCounts PlanStop} (w : Walk Projection) (h : RunWalked P H r w) where
  pub run_held : (f : LocalProjectionApplicationError) (c : SetCursor) (n : ProjectionCounts) → r ≡ Err (plan.Refused f c n) → (q : Projection) × P n q
  run_held f c n is = go w (subst (λ (z : Result ProjectionCounts PlanStop). RunWalked P H z w) is h)
    where
      go : (y : Walk Projection) → RunWalked P H (Err (plan.Refused f c n)) y → (q : Projection) × P n q
      go (through q) none = absurd none
      go (halted x) left = (x.left, left.0)
