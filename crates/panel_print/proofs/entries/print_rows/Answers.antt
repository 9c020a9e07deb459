-- `entries::print_rows` meets its contract. The invariant: what the first i rows add is printed.
use Prim.Native.Nat.{◌-◌, ◌≤◌, ◌<◌}
use mathlib.Core.Path.{◌≡◌, refl, ◌∙◌}
use mathlib.Core.List.{List, map, flat_map}
use native.Mathlib.Omega.{arith}
use borrow.Author.Rules.{rules}
use lib.ListN.{length, take, get_or}
use Rattle.spec_lists.specs.Lists.{All}
use Rattle.spec_projection.specs.Projection.{Entry}
use Rattle.spec_projection.specs.Valid.{FitsEntry}
use Rattle.bytes_records.specs.Table.{HoldsRows}
use Rattle.bytes_printer.specs.Prints.{Prints, Within}
use Rattle.bytes_printer.proofs.PrintsLaws.{lines_start, lines_turn, lines_end, ends_within}
use Rattle.panel_rows.specs.Rows.{entry_width, entry_row}
use Rattle.panel_rows.specs.RowsLaws.{no_entry}
use Rattle.panel_lookups.specs.NthLaws.{fits_at, row_at_entry}
use Rattle.bytes_records.specs.TableLaws.{not_too_many, holds_length}
use Rattle.panel_print.specs.EntriesPrint.{row_print}
use Rattle.panel_print.proofs.entries.print_rows.Goals as goal

pub returns-then-table-width : goal.returns-then-table-width
returns-then-table-width c = λ es fit t w. absurd (not_too_many t (omega arith) c.if-table-width.true)

pub loop-i-init : goal.loop-i-init
loop-i-init c = λ es fit t w. lines_start (row_print c.args.collection) es w

pub loop-i-preserved : goal.loop-i-preserved
loop-i-preserved c =
    λ es fit t w.
    let inside : c.loop-i.i < length es = omega (arith, holds_length entry_row es t) in
    let before = c.loop-i.invariant es fit t w in
    lines_turn (row_print c.args.collection) es c.loop-i.i no_entry inside before
    (c.print_row-at.ensures (get_or es c.loop-i.i no_entry) (fits_at es c.loop-i.i no_entry inside fit) (c.record_at-row.ensures.row (map entry_row es) t ∙ row_at_entry es c.loop-i.i no_entry inside) (ends_within before))

pub returns : goal.returns
returns c =
    λ es fit t w. lines_end (row_print c.args.collection) es c.loop-i.i (omega (arith, holds_length entry_row es t)) (c.loop-i.invariant es fit t w)
