-- `fill::plan_entries` meets its contract: the rows, numbered.
use native.Mathlib.Omega.{arith}
use borrow.Author.Rules.{rules}
use Rattle.spec_patch.specs.Sizes.{projection_entries}
use Rattle.panel_rows.specs.Rows.{entry_value_at, entry_width, entry_row}
use Rattle.panel_plan.specs.Plan.{entry_with}
use Rattle.panel_plan.specs.PlanRows.{planned_entry_row}
use Rattle.panel_plan.proofs.NumberedRowsLaws.{entry_numbered, stored_numbered}
use Rattle.panel_plan.proofs.fill.plan_entries.Goals as goal

pub returns : goal.returns
returns c =
    λ l s none. stored_numbered entry_row planned_entry_row entry_with entry_value_at entry_numbered entry_width projection_entries _ l (omega arith) (omega arith) (search rules) c.number_rows.ensures s none
