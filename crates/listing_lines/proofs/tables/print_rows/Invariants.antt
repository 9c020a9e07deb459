use mathlib.Core.List.{List, map, flat_map}
use lib.ListN.{take}
use Rattle.spec_lists.specs.Lists.{All}
use Rattle.bytes_records.specs.Table.{HoldsRows}
use Rattle.bytes_printer.specs.Prints.{Prints, Within}
use Rattle.listing_lines.specs.RowKinds.{Element, FitsRow, row_of, width_of, line_of_row}
use Rattle.listing_lines.proofs.tables.print_rows.Given as goal

abbrev pub invariant-loop-i : goal.invariant-loop-i
invariant-loop-i l =
    (xs : List (Element l.kind)) → All (FitsRow l.kind) xs → HoldsRows (width_of l.kind) l.count l.table (map (row_of l.kind) xs) → Within l.initial.out l.initial.at → Prints l.initial.out l.initial.at (flat_map (line_of_row l.kind) (take l.i xs)) l.out l.at
