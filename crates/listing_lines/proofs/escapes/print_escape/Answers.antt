-- `listing_lines::escapes::print_escape` meets its contract: a backslash and the letter.
use Rattle.bytes_printer.proofs.PrintsLaws.{◌⨾◌}
use Rattle.listing_lines.proofs.escapes.print_escape.Goals as goal

pub returns : goal.returns
returns c =
    c.print_byte-first.ensures ⨾ c.print_byte.ensures
