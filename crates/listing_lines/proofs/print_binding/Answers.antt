-- `listing_lines::print_binding` meets its contract: the row's numbers and its value in a line.
use mathlib.Core.Path.{ap, ◌∙◌}
use lib.ListN.{drop}
use Rattle.panel_rows.specs.Rows.{binding_value_at, node_in, slot_in}
use Rattle.panel_rows.specs.RowsLaws.{binding_behind, binding_node, binding_slot}
use Rattle.spec_listing.specs.Listing.{binding_line}
use Rattle.bytes_printer.proofs.PrintsLaws.{prints_same}
use Rattle.listing_lines.specs.LookupFields.{lookup_fields, found_fields}
use Rattle.listing_lines.proofs.Rows.{same_record}
use Rattle.listing_lines.proofs.print_binding.Goals as goal

pub returns : goal.returns
unfolding binding_line
returns c =
    λ x fits is.
    let shown = ap lookup_fields (c.stored_value-value.ensures x.value fits.value (ap (drop binding_value_at) is ∙ binding_behind x)) ∙ found_fields 0 x.value in
    prints_same (same_record 66 (c.binding_node-node.ensures ∙ ap node_in is ∙ binding_node x fits) (c.binding_slot-slot.ensures ∙ ap slot_in is ∙ binding_slot x fits) shown) c.print_record.ensures
