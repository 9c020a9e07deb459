-- `bytes_printer::print_field_i64` meets its contract: a tab, and the field behind it.
use mathlib.Core.Path.{ap}
use mir.Facts.{to_z-of_z}
use Rattle.spec_decimal.specs.Decimal.{signed_decimal}
use Rattle.bytes_printer.proofs.PrintsLaws.{◌⨾◌, prints_same}
use Rattle.bytes_printer.proofs.print_field_i64.Goals as goal

pub returns : goal.returns
returns c =
    let same = ap signed_decimal (to_z-of_z c.ranges.z) in
    c.print_byte-start.ensures ⨾ prints_same same c.print_i64.ensures
