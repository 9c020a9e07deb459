-- `script_answers::conversion::print_conversion` meets its contract: the set that was written, or the number of the refusal.
use Prim.Native.Nat.{ℕ}
use mathlib.Core.Path.{ap, ◌∙◌}
use mathlib.Core.List.{[], ◌∷◌}
use Rattle.spec_decimal.specs.Decimal.{decimal}
use Rattle.spec_listing.specs.Listing.{fields}
use Rattle.bytes_printer.proofs.PrintsLaws.{prints_same}
use Rattle.script_answers.proofs.Conversions.{converted_line, conversion_refused}
use borrow.Author.Rules.{rules}
use Rattle.script_answers.proofs.conversion.print_conversion.Goals as goal

pub returns-in-Ok : goal.returns-in-Ok
returns-in-Ok c =
    λ conversion h. converted_line conversion c.args.answer c.args.written.now h _ c.in-Ok.is c.print_set.ensures

pub returns-in-Err : goal.returns-in-Err
returns-in-Err c =
    let number = ap (λ (n : ℕ). 84 ∷ fields (decimal n ∷ [])) c.number.ensures in
    λ conversion h. prints_same (number ∙ conversion_refused conversion c.args.answer c.args.written.now h _ c.in-Err.is) c.print_number_line.ensures
