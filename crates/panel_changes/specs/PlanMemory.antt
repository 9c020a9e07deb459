-- The memory of a plan: three tables that are lent without rows, and given back so.
use Rattle.std.specs.Prelude.{ℕ, ◌*◌, ◌≡◌, List}
use Rattle.spec_patch.specs.Sizes.{projection_bindings, projection_entries}
use Rattle.bytes_records.specs.Moves.{zeros}
use Rattle.panel_rows.specs.Rows.{availability_bytes}
use Rattle.panel_plan.specs.PlanRows.{planned_binding_width, planned_entry_width}

pub record PlanTables : Type 0 where
  pub bindings : List ℕ
  pub availability : List ℕ
  pub entries : List ℕ

abbrev pub plan_in : (b a e : List ℕ) → PlanTables
plan_in b a e = record { bindings = b; availability = a; entries = e }

-- tables without rows are all zeros
pub record ClearPlan (t : PlanTables) : Type 0 where
  pub bindings : t.bindings ≡ zeros (projection_bindings * planned_binding_width)
  pub availability : t.availability ≡ zeros availability_bytes
  pub entries : t.entries ≡ zeros (projection_entries * planned_entry_width)

abbrev pub no_plan : PlanTables
no_plan = plan_in (zeros (projection_bindings * planned_binding_width)) (zeros availability_bytes) (zeros (projection_entries * planned_entry_width))
