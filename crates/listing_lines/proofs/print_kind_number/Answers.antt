-- `listing_lines::print_kind_number` meets its contract: the letter, one field and the end of the line.
use Rattle.spec_listing.specs.Listing.{fields}
use Rattle.bytes_printer.proofs.PrintsLaws.{◌⨾◌}
use Rattle.listing_lines.proofs.print_kind_number.Goals as goal

pub returns : goal.returns
unfolding fields
returns c =
    c.print_letter-kind.ensures ⨾ c.print_field_u64-number.ensures ⨾ c.print_newline.ensures
