-- `listing_lines::print_number_line` meets its contract: the letter, one field and the end of the line.
use Rattle.spec_listing.specs.Listing.{fields}
use Rattle.bytes_printer.proofs.PrintsLaws.{◌⨾◌}
use Rattle.listing_lines.proofs.print_number_line.Goals as goal

pub returns : goal.returns
unfolding fields
returns c =
    c.print_byte-start.ensures ⨾ c.print_field_u64-first.ensures ⨾ c.print_newline.ensures
