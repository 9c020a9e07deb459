-- `script_answers::turns::print_registration` meets its contract: 0, or the number of the refusal.
use Prim.Native.Nat.{ℕ}
use mathlib.Core.Path.{sym, ap, ◌∙◌}
use mathlib.Core.List.{List, [], ◌∷◌}
use borrow.Author.Rules.{rules}
use Rattle.spec_decimal.specs.Decimal.{decimal}
use Rattle.spec_listing.specs.Listing.{fields}
use Rattle.spec_replay.specs.Answers.{register_line}
use Rattle.bytes_printer.proofs.PrintsLaws.{prints_same}
use Rattle.session_turns.specs.declared.RegisterRefusal.{RegisterRefusal}
use Rattle.std.specs.Prelude.{Result}
use Rattle.script_answers.specs.TurnAnswers.{register_answer_of}
use Rattle.script_answers.proofs.turns.print_registration.Goals as goal

abbrev line : Result (Unit {0}) RegisterRefusal → List ℕ
line x = register_line (register_answer_of x)

pub returns-in-Ok : goal.returns-in-Ok
unfolding register_line
returns-in-Ok c =
    prints_same (sym (ap line c.in-Ok.is)) c.print_number_line.ensures

pub returns-in-Err : goal.returns-in-Err
unfolding register_line
returns-in-Err c =
    let number = ap (λ (n : ℕ). 74 ∷ fields (decimal n ∷ [])) c.number.ensures in
    prints_same (number ∙ sym (ap line c.in-Err.is)) c.print_number_line-in-Err.ensures
