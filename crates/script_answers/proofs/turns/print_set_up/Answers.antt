-- `script_answers::turns::print_set_up` meets its contract: 0, or the number of the refusal.
use Prim.Native.Nat.{ℕ}
use mathlib.Core.Path.{sym, ap, ◌∙◌}
use mathlib.Core.List.{[], ◌∷◌}
use borrow.Author.Rules.{rules}
use Rattle.spec_decimal.specs.Decimal.{decimal}
use Rattle.spec_listing.specs.Listing.{fields}
use Rattle.bytes_printer.proofs.PrintsLaws.{prints_same}
use Rattle.session_turns.specs.Meaning.{set_up_answered}
use Rattle.script_answers.proofs.SetUps.{set_up_line_lem, no_set_up_line}
use Rattle.script_answers.proofs.turns.print_set_up.Goals as goal

pub returns-in-Ok : goal.returns-in-Ok
returns-in-Ok c =
    λ made is. prints_same (set_up_line_lem made (sym (ap set_up_answered c.in-Ok.is) ∙ is)) c.print_number_line.ensures

pub returns-in-Err : goal.returns-in-Err
returns-in-Err c =
    let number = ap (λ (n : ℕ). 74 ∷ fields (decimal n ∷ [])) c.number.ensures in
    λ made is. prints_same (number ∙ no_set_up_line made _ (sym (ap set_up_answered c.in-Err.is) ∙ is)) c.print_number_line-in-Err.ensures
