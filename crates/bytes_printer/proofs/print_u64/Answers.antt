-- `bytes_printer::print_u64` meets its contract: the digits are what stands in their array from their start on.
use native.Mathlib.Omega.{arith}
use Rattle.bytes_decimal.specs.PrintLaws.{digits_long, digits_behind}
use Rattle.bytes_printer.proofs.PrintsLaws.{prints_same}
use Rattle.bytes_printer.proofs.print_u64.Goals as goal

pub slice_bounds-print_bytes-end : goal.slice_bounds-print_bytes-end
slice_bounds-print_bytes-end c =
    omega (arith, digits_long _ c.digits_of-digits.result c.digits_of-digits.ensures)

pub returns : goal.returns
returns c =
    prints_same (digits_behind _ c.digits_of-digits.result c.digits_of-digits.ensures) c.print_bytes.ensures
