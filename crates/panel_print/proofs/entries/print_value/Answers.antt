-- `entries::print_value` meets its contract: a text as it is stored, any other value as it is printed first.
use Prim.Native.Nat.{ℕ}
use mathlib.Core.Path.{refl, sym, ap, ◌∙◌}
use native.Mathlib.Omega.{arith}
use lib.ListN.{length-replicate}
use borrow.Author.Rules.{rules}
use Rattle.bytes_printer.proofs.PrintsLaws.{prints_same}
use Rattle.panel_print.specs.ByteFlow.{flowed_bytes}
use Rattle.panel_print.specs.LookupBytes.{scalar_most}
use Rattle.panel_print.specs.LookupBytesLaws.{text_bytes_lem, no_text_bytes, scalar_few}
use Rattle.panel_print.specs.AnswersLaws.{printed_whole, some_end, whole_part}
use Rattle.panel_print.proofs.entries.print_value.Goals as goal

pub returns-then-value-eq3 : goal.returns-then-value-eq3
returns-then-value-eq3 c =
    prints_same (ap (flowed_bytes 0) (c.key_part.ensures ∙ sym (text_bytes_lem c.args.value c.if-value-eq3.true))) c.print_columns.ensures

pub returns-in_err-len : goal.returns-in_err-len
returns-in_err-len c =
    absurd (some_end (printed_whole c.print_scalar.ensures (omega (arith, scalar_few c.args.value, length-replicate {A = ℕ} scalar_most 0))) c.in_err-len.was)

pub returns : goal.returns
returns c =
    let made = printed_whole c.print_scalar.ensures (omega (arith, scalar_few c.args.value, length-replicate {A = ℕ} scalar_most 0)) in
    prints_same (ap (flowed_bytes 0) (c.key_part-2.ensures ∙ whole_part made c.in_ok-len.len c.in_ok-len.was _ refl ∙ sym (no_text_bytes c.args.value c.if-value-eq3.false))) c.print_columns-2.ensures
