-- `columns::print_broken_byte` meets its contract: a line break only where the line is full and a character begins.
use Prim.Native.Nat.{ℕ}
use mathlib.Core.Path.{sym, ap, ◌∙◌}
use mathlib.Core.List.{[], ◌∷◌, ◌++◌}
use borrow.Author.Rules.{rules}
use Rattle.spec_panel_print.specs.Print.{line_end, blank_lead}
use Rattle.bytes_printer.proofs.PrintsLaws.{◌⨾◌, prints_same}
use Rattle.panel_print.specs.ByteFlowLaws.{broken_first, broken_next, broken_further}
use Rattle.panel_print.proofs.columns.print_broken_byte.Goals as goal

pub returns-then-column-ne-TEXT_WIDTH : goal.returns-then-column-ne-TEXT_WIDTH
returns-then-column-ne-TEXT_WIDTH c =
    let shown = ap (λ (b : ℕ). b ∷ []) c.shown_byte-shown.ensures in
    prints_same (shown ∙ sym (broken_next _ _ c.if-column-ne-TEXT_WIDTH.true)) c.print_byte.ensures

pub returns-then-begins_character : goal.returns-then-begins_character
returns-then-begins_character c =
    let shown = ap (λ (b : ℕ). (line_end ∷ blank_lead) ++ (b ∷ [])) c.shown_byte-shown.ensures in
    prints_same (shown ∙ sym (broken_first _ _ (sym c.begins_character.ensures ∙ c.if-begins_character.true) c.if-column-ne-TEXT_WIDTH.false)) (c.print_line_break-line.ensures ⨾ c.print_byte-then-begins_character.ensures)

pub returns : goal.returns
returns c =
    let shown = ap (λ (b : ℕ). b ∷ []) c.shown_byte-shown.ensures in
    prints_same (shown ∙ sym (broken_further _ _ (sym c.begins_character.ensures ∙ c.if-begins_character.false))) c.print_byte-2.ensures
