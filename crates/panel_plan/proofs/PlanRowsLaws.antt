-- Laws of a plan's rows: their widths, and that the searches in a table see the plan's ids.
use Rattle.std.specs.Prelude.{◌≡◌, [], ◌∷◌}
use Rattle.std.proofs.Common.{ap, ◌∙◌}
use Rattle.spec_projection.specs.Projection.{Binding, binding_key}
use Rattle.spec_projection.specs.Valid.{FitsBinding}
use Rattle.bytes_records.specs.Keys.{leading_numbers}
use Rattle.bytes_records.specs.KeysLaws.{leading_number}
use Rattle.panel_rows.specs.Rows.{id_width, slot_width, binding_fields}
use Rattle.panel_plan.specs.PlanRows.{planned_binding_row}

pub planned_binding_key : (b : Binding) → FitsBinding b → leading_numbers binding_fields (planned_binding_row b) ≡ binding_key b
unfolding planned_binding_row binding_key leading_numbers
planned_binding_key b h = leading_number id_width b.node (slot_width ∷ []) _ h.node ∙ ap (λ l. b.node ∷ l) (leading_number slot_width b.slot [] _ h.slot)
