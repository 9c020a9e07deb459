-- `entries::print_scalar` meets its contract: the kinds are tested as the definition tests them.
use Prim.Native.Nat.{ℕ}
use mathlib.Core.Path.{sym, ap, ◌∙◌}
use mathlib.Core.List.{[], ◌∷◌}
use native.Mathlib.Omega.{arith}
use mir.Syntax.{w64}
use mir.Facts.{to_z-of_z}
use borrow.Author.Rules.{rules, sfits_of}
use Rattle.spec_decimal.specs.Decimal.{signed_decimal}
use Rattle.bytes_printer.proofs.PrintsLaws.{prints_same}
use Rattle.panel_print.specs.LookupBytesLaws.{quad_bytes, signed_bytes, unsigned_bytes}
use Rattle.panel_print.proofs.entries.print_scalar.Goals as goal

pub returns-in-1 : goal.returns-in-1
returns-in-1 c =
    prints_same (ap (λ (b : ℕ). b ∷ []) c.quad_letter.ensures ∙ sym (quad_bytes c.args.value c.in-1.is)) c.print_byte.ensures

pub returns-in-2 : goal.returns-in-2
returns-in-2 c =
    let same = to_z-of_z {w = w64} (search rules) in
    prints_same (ap signed_decimal same ∙ sym (signed_bytes c.args.value (λ e. omega (arith, c.in-2.is)) c.in-2.is)) c.print_i64.ensures

pub returns-in_default : goal.returns-in_default
returns-in_default c =
    prints_same (sym (unsigned_bytes c.args.value (search c.in_default.in_default-own.rest) (search c.in_default.in_default-own.rest))) c.print_u64.ensures
