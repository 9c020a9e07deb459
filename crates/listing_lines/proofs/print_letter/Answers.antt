-- `listing_lines::print_letter` meets its contract: a tab and the letter.
use Rattle.bytes_printer.proofs.PrintsLaws.{◌⨾◌}
use Rattle.listing_lines.proofs.print_letter.Goals as goal

pub returns : goal.returns
returns c =
    c.print_byte-tab.ensures ⨾ c.print_byte.ensures
