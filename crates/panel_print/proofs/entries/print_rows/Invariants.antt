use Prim.Native.Nat.{◌-◌, ◌≤◌, ◌<◌}
use mathlib.Core.Path.{◌≡◌, refl, ◌∙◌}
use mathlib.Core.List.{List, map, flat_map}
use native.Mathlib.Omega.{arith}
use borrow.Author.Rules.{rules}
use lib.ListN.{length, take, get_or}
use Rattle.spec_lists.specs.Lists.{All}
use Rattle.spec_projection.specs.Projection.{Entry}
use Rattle.spec_projection.specs.Valid.{FitsEntry}
use Rattle.bytes_records.specs.Table.{HoldsRows}
use Rattle.bytes_printer.specs.Prints.{Prints, Within}
use Rattle.bytes_printer.proofs.PrintsLaws.{lines_start, lines_turn, lines_end, ends_within}
use Rattle.panel_rows.specs.Rows.{entry_width, entry_row}
use Rattle.panel_rows.specs.RowsLaws.{no_entry}
use Rattle.panel_lookups.specs.NthLaws.{fits_at, row_at_entry}
use Rattle.bytes_records.specs.TableLaws.{not_too_many, holds_length}
use Rattle.panel_print.specs.EntriesPrint.{row_print}
use Rattle.panel_print.proofs.entries.print_rows.Given as goal

abbrev pub invariant-loop-i : goal.invariant-loop-i
invariant-loop-i l =
    (es : List Entry) → All FitsEntry es → HoldsRows entry_width l.count l.table (map entry_row es) → Within l.initial.out l.initial.at → Prints l.initial.out l.initial.at (flat_map (row_print l.collection) (take l.i es)) l.out l.at
