-- `listing_lines::print_availability` meets its contract: the row's node and its byte in a line.
use mathlib.Core.Path.{ap, ◌∙◌}
use Rattle.spec_listing.specs.Listing.{fields, availability_line}
use Rattle.bytes_printer.proofs.PrintsLaws.{◌⨾◌, prints_same}
use Rattle.panel_rows.specs.Rows.{node_in, availability_in}
use Rattle.panel_rows.specs.RowsLaws.{availability_node, availability_byte_lem}
use Rattle.listing_lines.proofs.Rows.{same_record, none_more}
use Rattle.listing_lines.proofs.print_availability.Goals as goal

pub returns : goal.returns
unfolding fields availability_line
returns c =
    λ a fits is.
    prints_same (same_record 65 (c.availability_node-node.ensures ∙ ap node_in is ∙ availability_node a fits) (c.availability_byte-availability.ensures ∙ ap availability_in is ∙ availability_byte_lem a) none_more)
    (c.print_byte-start.ensures ⨾ c.print_field_u64-first.ensures ⨾ c.print_field_u64-second.ensures ⨾ c.print_newline.ensures)
