-- `binding_row` meets its contract: four numbers, one behind another.
use borrow.Author.Rules.{rules}
use Rattle.spec_lists.proofs.BytesLaws.{length_little_endian}
use Rattle.bytes_records.specs.MovesLaws.{length_zeros}
use Rattle.panel_rows.specs.Rows.{id_width, slot_width, mark_width}
use Rattle.panel_rows.proofs.Filling.{four_fields}
use Rattle.panel_plan.specs.PlanRows.{source_width, planned_binding_width, planned_binding_row}
use Rattle.panel_plan.proofs.binding_row.Goals as goal

pub returns : goal.returns
unfolding planned_binding_row
returns c =
    four_fields _ _ _ _ id_width slot_width mark_width (length_little_endian id_width _) (length_little_endian slot_width _) (length_little_endian mark_width _)
    c.write_u64_at.ensures.out_after c.write_u32_at.ensures.out_after c.write_u64_at-2.ensures.out_after
    _ source_width (length_little_endian source_width _) c.write_u64_at-3.ensures.out_after (length_zeros planned_binding_width)
