-- `PageLookup::read` meets its contract: the fields of a row, by whether the key was found.
use Prim.Native.Nat.{ℕ}
use mathlib.Core.Path.{◌≡◌, ap, ◌∙◌}
use mathlib.Core.Option.{Option, none, some}
use native.Mathlib.Omega.{arith}
use borrow.Author.Rules.{rules}
use lib.ListN.{drop}
use Rattle.spec_page.specs.Page.{PageEntry}
use Rattle.panel_rows.specs.Rows.{field_at, mark_width}
use Rattle.panel_rows.specs.Lookup.{found_value}
use Rattle.panel_page.specs.PageTable.{found_width, position_width, page_mark_at, page_value_at, answer_row, FitsAnswer, page_lookup}
use Rattle.panel_page.specs.PageTableLaws.{none_row, some_found, answer_position, answer_mark, answer_value}
use Rattle.panel_page.specs.declared.rows.PageLookup.{PageLookup}
use Rattle.panel_page.proofs.rows.PageLookup.read.Goals as goal

pub returns-then-number_at-eq0 : goal.returns-then-number_at-eq0
returns-then-number_at-eq0 c = by_answer
  where
    by_answer : (a : Option PageEntry) → FitsAnswer a → c.args.row.now ≡ answer_row a → c.no_answer.result ≡ page_lookup a
    by_answer none fits is = c.no_answer.ensures
    by_answer (some x) fits is = absurd (omega (arith, some_found x fits, ap (field_at 0 found_width) is, c.number_at.ensures))

pub returns : goal.returns
unfolding page_lookup
returns c = by_answer
  where
    by_answer : (a : Option PageEntry) → FitsAnswer a → c.args.row.now ≡ answer_row a
        → ◌≡◌ {A = PageLookup} (record { position = c.number_at-position.result; value = c.stored_value-value.result }) (page_lookup a)
    by_answer none fits is = absurd (omega (arith, none_row, ap (field_at 0 found_width) is, c.number_at.ensures))
    by_answer (some x) fits is =
        let position = c.number_at-position.ensures ∙ ap (field_at found_width position_width) is ∙ answer_position x fits in
        let mark = c.number_at-mark.ensures ∙ ap (field_at page_mark_at mark_width) is ∙ answer_mark x fits in
        let value = c.stored_value-value.ensures x.value fits.1.1 (ap (drop page_value_at) is ∙ answer_value x fits) ∙ ap (λ (m : ℕ). found_value m x.value) mark in
        λ i. record { position = position i; value = value i }
