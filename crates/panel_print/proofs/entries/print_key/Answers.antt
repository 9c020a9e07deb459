-- `entries::print_key` meets its contract: the digits stand at the end of their array, behind as many places as there are spaces.
use Prim.Native.Nat.{ℕ, ◌-◌}
use mathlib.Core.Path.{◌≡◌, ap}
use native.Mathlib.Omega.{arith}
use lib.ListN.{length, replicate}
use borrow.Author.Rules.{rules}
use Rattle.spec_decimal.specs.Decimal.{decimal}
use Rattle.spec_panel_print.specs.Print.{key_width, blank, key_lead}
use Rattle.bytes_decimal.specs.PrintLaws.{digits_long, digits_behind}
use Rattle.bytes_printer.proofs.PrintsLaws.{◌⨾◌, prints_same}
use Rattle.panel_print.proofs.entries.print_key.Goals as goal

pub print_spaces-lead-requires : goal.print_spaces-lead-requires
print_spaces-lead-requires c = omega (arith, c.digits_of-digits.ensures.place)

pub slice_bounds-print_bytes-end : goal.slice_bounds-print_bytes-end
slice_bounds-print_bytes-end c =
    omega (arith, digits_long _ c.digits_of-digits.result c.digits_of-digits.ensures)

pub returns : goal.returns
unfolding key_lead
returns c =
    let many : c.digits_of-digits.result.start ≡ key_width - length (decimal c.args.key) = omega (arith, c.digits_of-digits.ensures.place) in
    let first = prints_same (ap (λ (n : ℕ). replicate n blank) many) c.print_spaces-lead.ensures in
    let second = prints_same (digits_behind _ c.digits_of-digits.result c.digits_of-digits.ensures) c.print_bytes-number.ensures in
    (first ⨾ second) ⨾ c.print_spaces.ensures
