-- `script_answers::import::print_import` meets its contract: the set that was written, or the number of the refusal.
use Prim.Native.Nat.{ℕ}
use mathlib.Core.Path.{ap, ◌∙◌}
use mathlib.Core.List.{[], ◌∷◌}
use Rattle.spec_decimal.specs.Decimal.{decimal}
use Rattle.spec_listing.specs.Listing.{fields}
use Rattle.bytes_printer.proofs.PrintsLaws.{prints_same}
use Rattle.script_answers.proofs.Imports.{imported_line, import_refused}
use borrow.Author.Rules.{rules}
use Rattle.script_answers.proofs.import.print_import.Goals as goal

pub returns-in-Ok : goal.returns-in-Ok
returns-in-Ok c =
    λ imported h. imported_line imported c.args.answer c.args.written.now h _ c.in-Ok.is c.print_set.ensures

pub returns-in-Err : goal.returns-in-Err
returns-in-Err c =
    let number = ap (λ (n : ℕ). 73 ∷ fields (decimal n ∷ [])) c.number.ensures in
    λ imported h. prints_same (number ∙ import_refused imported c.args.answer c.args.written.now h _ c.in-Err.is) c.print_number_line.ensures
