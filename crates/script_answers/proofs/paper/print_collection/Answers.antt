-- `script_answers::paper::print_collection` meets its contract: the bytes that were written, or the number of the refusal.
use Prim.Native.Nat.{ℕ}
use mathlib.Core.Path.{ap, ◌∙◌}
use mathlib.Core.List.{[], ◌∷◌}
use native.Mathlib.Omega.{arith}
use Rattle.spec_decimal.specs.Decimal.{decimal}
use Rattle.spec_listing.specs.Listing.{fields}
use Rattle.bytes_printer.proofs.PrintsLaws.{prints_same}
use Rattle.script_answers.proofs.Prints.{print_wrote_within, print_wrote_lines, print_refused_lines}
use borrow.Author.Rules.{rules}
use Rattle.script_answers.proofs.paper.print_collection.Goals as goal

pub returns-then-written-len : goal.returns-then-written-len
returns-then-written-len c =
    λ lent print h. absurd (omega (arith, print_wrote_within lent print c.args.answer c.args.written.now h _ c.in-Ok.is, c.if-written-len.true))

pub returns-else-written-len : goal.returns-else-written-len
returns-else-written-len c =
    λ lent print h. prints_same (print_wrote_lines lent print c.args.answer c.args.written.now h _ c.in-Ok.is) c.print_paper.ensures

pub returns-in-Err : goal.returns-in-Err
returns-in-Err c =
    let number = ap (λ (n : ℕ). 79 ∷ fields (decimal n ∷ [])) c.number.ensures in
    λ lent print h. prints_same (number ∙ print_refused_lines lent print c.args.answer c.args.written.now h _ c.in-Err.is) c.print_number_line.ensures
