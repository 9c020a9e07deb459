use Prim.Native.Nat.{ℕ, ◌*◌, ◌-◌, ◌≤◌, ◌<◌}
use mathlib.Core.Path.{◌≡◌, refl, ap, ◌∙◌}
use mathlib.Core.List.{List, ◌++◌, flat_map}
use native.Mathlib.Omega.{arith}
use borrow.Author.Rules.{rules}
use lib.ListN.{length, take, get_or, length-append}
use Rattle.spec_projection.specs.Projection.{Projection}
use Rattle.spec_projection.specs.Valid.{Valid}
use Rattle.spec_page.specs.Page.{page_entry}
use Rattle.bytes_printer.specs.Prints.{Prints, Within}
use Rattle.bytes_printer.proofs.PrintsLaws.{prints_same, lines_start, lines_turn, lines_end}
use Rattle.panel_page.specs.PageTable.{page_width, page_bytes}
use Rattle.panel_page.specs.PageTableLaws.{length_page, page_fits}
use Rattle.script_answers.specs.PageTold.{row_lookup_line}
use Rattle.script_answers.specs.PageToldLaws.{line_of_key, lines_of_keys, lent_place, row_looked_up}
use Rattle.script_answers.proofs.page.print_rows.Given as goal

abbrev pub invariant-loop-i : goal.invariant-loop-i
invariant-loop-i l =
    (p : Projection) (c : ℕ) (keys rest : List ℕ) → Valid p → length keys ≡ l.count → l.table ≡ page_bytes p c keys ++ rest → Within l.initial.out l.initial.at → Prints l.initial.out l.initial.at (flat_map (line_of_key p c) (take l.i keys)) l.out l.at
