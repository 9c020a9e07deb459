-- `script_answers::check::print_check` meets its contract: the answer decides, and the records stand in the lent numbers.
use Prim.Native.Nat.{ℕ}
use mathlib.Core.Path.{ap, ◌∙◌}
use mathlib.Core.List.{[], ◌∷◌}
use borrow.Author.Rules.{rules}
use Rattle.spec_decimal.specs.Decimal.{decimal}
use Rattle.spec_listing.specs.Listing.{fields}
use Rattle.bytes_printer.proofs.PrintsLaws.{prints_same}
use Rattle.script_answers.proofs.Checks.{check_refused_lines, checked_lines}
use Rattle.script_answers.proofs.check.print_check.Goals as goal

pub returns-in-Ok : goal.returns-in-Ok
returns-in-Ok c =
    λ ed set h. checked_lines ed set c.args.answer c.args.records.now h _ c.in-Ok.is c.print_checked-head.ensures c.print_findings.ensures

pub returns-in-Err : goal.returns-in-Err
returns-in-Err c =
    let number = ap (λ (n : ℕ). 75 ∷ fields (decimal n ∷ [])) c.number.ensures in
    λ ed set h. prints_same (number ∙ check_refused_lines ed set c.args.answer c.args.records.now h _ c.in-Err.is) c.print_number_line.ensures
