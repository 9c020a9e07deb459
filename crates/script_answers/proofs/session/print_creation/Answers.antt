-- `script_answers::session::print_creation` meets its contract: 0, or the number of the refusal.
use Prim.Native.Nat.{ℕ}
use mathlib.Core.Path.{sym, ap, ◌∙◌}
use mathlib.Core.List.{[], ◌∷◌}
use borrow.Author.Rules.{rules}
use Rattle.spec_decimal.specs.Decimal.{decimal}
use Rattle.spec_listing.specs.Listing.{fields}
use Rattle.bytes_printer.proofs.PrintsLaws.{prints_same}
use Rattle.script_answers.proofs.Creations.{made_line, creation_refused}
use Rattle.script_answers.proofs.session.print_creation.Goals as goal

pub returns-in-Ok : goal.returns-in-Ok
returns-in-Ok c =
    λ made is. prints_same (made_line made (sym c.in-Ok.is ∙ is)) c.print_number_line.ensures

pub returns-in-Err : goal.returns-in-Err
returns-in-Err c =
    let number = ap (λ (n : ℕ). 83 ∷ fields (decimal n ∷ [])) c.number.ensures in
    λ made is. prints_same (number ∙ creation_refused made _ (sym c.in-Err.is ∙ is)) c.print_number_line-in-Err.ensures
