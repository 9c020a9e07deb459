-- `bytes_printer::print_field_bytes` meets its contract: a tab, and the field behind it.
use Rattle.bytes_printer.proofs.PrintsLaws.{◌⨾◌}
use Rattle.bytes_printer.proofs.print_field_bytes.Goals as goal

pub returns : goal.returns
returns c =
    c.print_byte-start.ensures ⨾ c.print_bytes.ensures
