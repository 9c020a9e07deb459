-- `script_answers::page::print_rows` meets its contract. The invariant: the lines of the first i keys are printed.
use Prim.Native.Nat.{ℕ, ◌*◌, ◌-◌, ◌≤◌, ◌<◌}
use mathlib.Core.Path.{◌≡◌, refl, ap, ◌∙◌}
use mathlib.Core.List.{List, ◌++◌, flat_map}
use native.Mathlib.Omega.{arith}
use borrow.Author.Rules.{rules}
use lib.ListN.{length, take, get_or, length-append}
use Rattle.spec_projection.specs.Projection.{Projection}
use Rattle.spec_projection.specs.Valid.{Valid}
use Rattle.spec_page.specs.Page.{page_entry}
use Rattle.bytes_printer.specs.Prints.{Prints, Within}
use Rattle.bytes_printer.proofs.PrintsLaws.{prints_same, lines_start, lines_turn, lines_end}
use Rattle.panel_page.specs.PageTable.{page_width, page_bytes}
use Rattle.panel_page.specs.PageTableLaws.{length_page, page_fits}
use Rattle.script_answers.specs.PageTold.{row_lookup_line}
use Rattle.script_answers.specs.PageToldLaws.{line_of_key, lines_of_keys, lent_place, row_looked_up}
use Rattle.script_answers.proofs.page.print_rows.Goals as goal

-- a table with a place for each key is as long
table_long : (table : List ℕ) (p : Projection) (k : ℕ) (keys rest : List ℕ) → Valid p → table ≡ page_bytes p k keys ++ rest → length keys * page_width ≤ length table
table_long table p k keys rest v is = omega (arith, ap length is, length-append (page_bytes p k keys) rest, length_page p v k keys)

pub returns-then-table-count : goal.returns-then-table-count
returns-then-table-count c =
    λ p k keys rest v counted is w.
    absurd (omega (arith, c.if-table-count.true, table_long c.args.table.now p k keys rest v is, counted))

pub loop-i-init : goal.loop-i-init
loop-i-init c = λ p k keys rest v counted is w. lines_start (line_of_key p k) keys w

pub loop-i-preserved : goal.loop-i-preserved
loop-i-preserved c =
    λ p k keys rest v counted is w.
    let inside : c.loop-i.i < length keys = omega (arith, counted) in
    let answer = page_entry p k (get_or keys c.loop-i.i 0) in
    let looked = c.read-lookup.ensures answer (page_fits p v k (get_or keys c.loop-i.i 0)) (lent_place p v k keys rest c.args.table.now is c.loop-i.i inside) in
    lines_turn (line_of_key p k) keys c.loop-i.i 0 inside (c.loop-i.invariant p k keys rest v counted is w) (prints_same (ap row_lookup_line looked ∙ row_looked_up answer) c.print_row-at.ensures)

pub returns : goal.returns
returns c =
    λ p k keys rest v counted is w.
    prints_same (lines_of_keys p k keys) (lines_end (line_of_key p k) keys c.loop-i.i (omega (arith, counted)) (c.loop-i.invariant p k keys rest v counted is w))
