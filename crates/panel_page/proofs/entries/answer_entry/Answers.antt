-- `entries::answer_entry` meets its contract: what stands before the mark, and what the entry's row has from its mark on.
use Prim.Native.Nat.{ℕ}
use mathlib.Core.Path.{◌≡◌, ap, ap₂, ◌∙◌, subst}
use mathlib.Core.List.{List, map}
use native.Mathlib.Omega.{arith}
use lib.ListN.{length, drop, get_or, length-drop}
use Rattle.spec_lists.proofs.BytesLaws.{length_little_endian}
use Rattle.panel_rows.specs.Rows.{entry_mark_at, key_in, filled_row}
use Rattle.panel_rows.specs.RowsLaws.{entry_key}
use Rattle.panel_page.specs.PageTable.{page_mark_at, page_width}
use Rattle.panel_page.specs.PageTableLaws.{answer_filled}
use Rattle.panel_page.specs.Answering.{answering}
use borrow.Author.Rules.{rules}
use Rattle.panel_page.specs.Shown.{Shows}
use Rattle.panel_page.proofs.entries.answer_entry.Goals as goal

pub answer_key-requires : goal.answer_key-requires
answer_key-requires c =
    let head : length c.answer_head-head.result ≡ page_mark_at = ap length c.answer_head-head.ensures ∙ simp length_little_endian in
    let rest = ap length c.value_part-rest.ensures ∙ length-drop entry_mark_at c.args.row.now in
    (c.requires.0, ((ap (λ (l : List ℕ). get_or l 0 0) c.answer_head-head.ensures, omega arith), search rules))

pub returns : goal.returns
returns c =
    λ e fits is f t.
    let key = c.entry_key-key.ensures ∙ ap key_in is ∙ entry_key e fits in
    let row = ap₂ (filled_row page_width) c.answer_head-head.ensures (c.value_part-rest.ensures ∙ ap (drop entry_mark_at) is) ∙ answer_filled c.args.position e fits in
    subst (Shows (length c.args.keys.now) _) (ap₂ (λ (k : ℕ) (r : List ℕ). map (answering k r f) c.args.keys.now) key row) (c.answer_key.ensures f t)
