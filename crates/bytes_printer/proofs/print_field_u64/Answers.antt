-- `bytes_printer::print_field_u64` meets its contract: a tab, and the field behind it.
use Rattle.bytes_printer.proofs.PrintsLaws.{◌⨾◌}
use Rattle.bytes_printer.proofs.print_field_u64.Goals as goal

pub returns : goal.returns
returns c =
    c.print_byte-start.ensures ⨾ c.print_u64.ensures
