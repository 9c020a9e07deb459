-- `listing_lines::print_record` meets its contract: the letter, two fields and the value.
use Rattle.spec_listing.specs.Listing.{fields}
use Rattle.bytes_printer.proofs.PrintsLaws.{◌⨾◌}
use Rattle.listing_lines.proofs.print_record.Goals as goal

pub returns : goal.returns
unfolding fields
returns c =
    c.print_byte-start.ensures ⨾ c.print_field_u64-first.ensures ⨾ c.print_field_u64-second.ensures ⨾ c.print_value.ensures
