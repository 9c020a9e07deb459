use Prim.Native.Nat.{ℕ, ◌+◌, ◌-◌, ◌≤◌, ◌<◌}
use mathlib.Core.Path.{◌≡◌, refl, sym, ap, ◌∙◌, subst}
use mathlib.Core.List.{List, [], ◌∷◌, ◌++◌, map}
use native.Mathlib.Numerals.{add-one}
use native.Mathlib.Omega.{arith}
use borrow.Author.Rules.{rules}
use lib.ListN.{length, take, get_or}
use lib.Seq.{take-suc, take_all}
use Rattle.spec_lists.specs.Lists.{All}
use Rattle.spec_projection.specs.Projection.{Entry}
use Rattle.spec_projection.specs.Lookups.{entries_in}
use Rattle.spec_projection.specs.Valid.{FitsEntry, Grouped}
use Rattle.bytes_records.specs.Table.{HoldsRows}
use Rattle.panel_rows.specs.Rows.{entry_width, entry_row}
use Rattle.panel_rows.specs.RowsLaws.{no_entry}
use Rattle.panel_lookups.specs.NthLaws.{fits_at, row_at_entry}
use Rattle.bytes_records.specs.TableLaws.{holds_length}
use Rattle.panel_page.specs.Answering.{answers_in}
use Rattle.panel_page.proofs.AnsweringLaws.{absent_before}
use Rattle.panel_page.specs.Shown.{Shows}
use Rattle.panel_page.proofs.entries.answer_rows.Given as goal

abbrev pub invariant-loop-i : goal.invariant-loop-i
invariant-loop-i l =
    (l.i ≤ l.count) × ((l.position ≤ l.i) × ((length l.answers ≡ length l.initial.answers) × ((es : List Entry) → All FitsEntry es → Grouped es → HoldsRows entry_width l.count l.table (map entry_row es)
    → Shows (length l.keys) l.initial.answers (map (answers_in l.collection []) l.keys)
    → Shows (length l.keys) l.answers (map (answers_in l.collection (take l.i es)) l.keys) × (l.position ≡ length (entries_in l.collection (take l.i es))))))

abbrev pub decreases-loop-i : goal.decreases-loop-i
decreases-loop-i l = l.count - l.i
