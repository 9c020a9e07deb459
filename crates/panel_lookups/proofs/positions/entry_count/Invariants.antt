use Prim.Native.Nat.{◌+◌, ◌-◌, ◌≤◌}
use mathlib.Core.Path.{◌≡◌}
use mathlib.Core.List.{List, map}
use native.Mathlib.Omega.{arith}
use borrow.Author.Rules.{rules}
use lib.ListN.{length, drop}
use Rattle.spec_lists.specs.Lists.{All}
use Rattle.spec_projection.specs.Projection.{Entry}
use Rattle.spec_projection.specs.Lookups.{entries_in, entries_of, entry_count}
use Rattle.spec_projection.specs.Valid.{FitsEntry}
use Rattle.bytes_records.specs.Table.{HoldsRows}
use Rattle.panel_rows.specs.Rows.{entry_width, entry_row}
use Rattle.panel_rows.specs.RowsLaws.{no_entry}
use Rattle.panel_lookups.specs.NthLaws.{counts_turn, counts_end}
use Rattle.bytes_records.specs.TableLaws.{not_too_many, holds_length}
use Rattle.panel_lookups.proofs.positions.entry_count.Given as goal

abbrev pub invariant-loop-i : goal.invariant-loop-i
invariant-loop-i l =
    (l.n ≤ l.i) × ((es : List Entry) → All FitsEntry es → HoldsRows entry_width l.count l.table (map entry_row es) → l.n + length (entries_in l.collection (drop l.i es)) ≡ length (entries_in l.collection es))
