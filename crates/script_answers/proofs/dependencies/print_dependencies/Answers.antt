-- `script_answers::dependencies::print_dependencies` meets its contract: the answer decides, and the records stand in the lent numbers.
use Prim.Native.Nat.{ℕ}
use mathlib.Core.Path.{ap, ◌∙◌}
use mathlib.Core.List.{[], ◌∷◌}
use borrow.Author.Rules.{rules}
use Rattle.spec_decimal.specs.Decimal.{decimal}
use Rattle.spec_listing.specs.Listing.{fields}
use Rattle.bytes_printer.proofs.PrintsLaws.{prints_same}
use Rattle.script_answers.proofs.DependencyLines.{never_lines, needs_counted, needs_lines, refusal_lines}
use Rattle.script_answers.proofs.dependencies.print_dependencies.Goals as goal

pub returns-in-Never : goal.returns-in-Never
returns-in-Never c =
    λ a h. prints_same (never_lines a c.args.answer c.args.written.now h _ _ c.in-Never.is) (c.print_never.ensures _)

pub returns-in-Needs : goal.returns-in-Needs
returns-in-Needs c =
    λ a h.
    prints_same (needs_lines a c.args.answer c.args.written.now h _ _ c.in-Needs.is) (c.print_needs.ensures (needs_counted a c.args.answer c.args.written.now h _ _ c.in-Needs.is))

pub returns-in-Refused : goal.returns-in-Refused
returns-in-Refused c =
    let number = ap (λ (n : ℕ). 68 ∷ fields (decimal n ∷ [])) c.number.ensures in
    λ a h. prints_same (number ∙ refusal_lines a c.args.answer c.args.written.now h _ c.in-Refused.is) c.print_number_line.ensures
