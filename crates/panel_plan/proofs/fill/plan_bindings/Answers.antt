-- `fill::plan_bindings` meets its contract: the rows, numbered.
use native.Mathlib.Omega.{arith}
use borrow.Author.Rules.{rules}
use Rattle.spec_patch.specs.Sizes.{projection_bindings}
use Rattle.panel_rows.specs.Rows.{binding_value_at, binding_width, binding_row}
use Rattle.panel_plan.specs.Plan.{binding_with}
use Rattle.panel_plan.specs.PlanRows.{planned_binding_row}
use Rattle.panel_plan.proofs.NumberedRowsLaws.{binding_numbered, stored_numbered}
use Rattle.panel_plan.proofs.fill.plan_bindings.Goals as goal

pub returns : goal.returns
returns c =
    λ l s none. stored_numbered binding_row planned_binding_row binding_with binding_value_at binding_numbered binding_width projection_bindings _ l (omega arith) (omega arith) (search rules) c.number_rows.ensures s none
