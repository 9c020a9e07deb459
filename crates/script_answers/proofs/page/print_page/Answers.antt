-- `script_answers::page::print_page` meets its contract: the answer decides, and the places stand in the answer table.
use Prim.Native.Nat.{ℕ}
use mathlib.Core.Path.{ap, ◌∙◌}
use mathlib.Core.List.{[], ◌∷◌}
use borrow.Author.Rules.{rules}
use Rattle.spec_decimal.specs.Decimal.{decimal}
use Rattle.spec_listing.specs.Listing.{fields}
use Rattle.bytes_printer.proofs.PrintsLaws.{prints_same}
use Rattle.script_answers.specs.PageToldLaws.{page_keys_counted, keys_table, answered_lines_lem, page_refused_lines}
use Rattle.script_answers.proofs.page.print_page.Goals as goal

pub returns-in-Ok : goal.returns-in-Ok
returns-in-Ok c =
    λ p k keys places h.
    prints_same (answered_lines_lem p k keys places c.args.answer c.args.table.now h _ c.in-Ok.is)
    (c.print_answered.ensures p k keys _ h.valid (page_keys_counted p k keys places c.args.answer c.args.table.now h _ c.in-Ok.is) (keys_table p k keys places c.args.answer c.args.table.now h _ c.in-Ok.is))

pub returns-in-Err : goal.returns-in-Err
returns-in-Err c =
    let number = ap (λ (n : ℕ). 89 ∷ fields (decimal n ∷ [])) c.number.ensures in
    λ p k keys places h. prints_same (number ∙ page_refused_lines p k keys places c.args.answer c.args.table.now h _ c.in-Err.is) c.print_number_line.ensures
