-- `listing_lines::tables::print_rows` meets its contract. The invariant: the lines of the first i rows are printed.
use Prim.Native.Nat.{ℕ}
use mathlib.Core.Path.{sym, ◌∙◌, subst}
use mathlib.Core.List.{map}
use native.Mathlib.Omega.{arith}
use Rattle.bytes_records.specs.Table.{HoldsRows}
use Rattle.bytes_records.specs.TableLaws.{not_too_many, holds_length}
use Rattle.bytes_printer.proofs.PrintsLaws.{lines_start, lines_end}
use Rattle.listing_lines.specs.RowKinds.{FitsRow, row_of, line_of_row, some_width}
use Rattle.listing_lines.proofs.Lines.{element_at, line_more}
use Rattle.listing_lines.proofs.tables.print_rows.Goals as goal

pub nonzero_div-table : goal.nonzero_div-table
nonzero_div-table c = rw c.row_width-width.ensures (some_width c.args.kind)

pub returns-then-table-width : goal.returns-then-table-width
returns-then-table-width c =
    let full = rw c.row_width-width.ensures at c.if-table-width.true in
    λ xs fit t w. absurd (not_too_many t (some_width c.args.kind) full)

pub loop-i-init : goal.loop-i-init
loop-i-init c = λ xs fit t w. lines_start (line_of_row c.args.kind) xs w

pub record_at-row-requires : goal.record_at-row-requires
record_at-row-requires c =
    rw c.row_width-width.ensures (some_width c.args.kind)

pub loop-i-preserved : goal.loop-i-preserved
loop-i-preserved c =
    λ xs fit t w.
    let e = element_at (FitsRow c.args.kind) (row_of c.args.kind) xs c.loop-i.i (omega (arith, holds_length (row_of c.args.kind) xs t)) fit in
    let held = subst (λ (k : ℕ). HoldsRows k c.args.count c.args.table.now (map (row_of c.args.kind) xs)) (sym c.row_width-width.ensures) t in
    line_more (FitsRow c.args.kind) (row_of c.args.kind) (line_of_row c.args.kind) xs c.loop-i.i e (c.loop-i.invariant xs fit t w)
    (c.print_row-at.ensures e.element e.fits (c.record_at-row.ensures.row (map (row_of c.args.kind) xs) held ∙ e.stored))

pub returns : goal.returns
returns c =
    λ xs fit t w. lines_end (line_of_row c.args.kind) xs c.loop-i.i (omega (arith, holds_length (row_of c.args.kind) xs t)) (c.loop-i.invariant xs fit t w)
