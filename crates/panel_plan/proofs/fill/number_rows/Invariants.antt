use Prim.Native.Nat.{ℕ, ◌+◌, ◌-◌, ◌*◌, ◌≤◌}
use mathlib.Core.Path.{◌≡◌, refl, ap}
use mathlib.Core.List.{List, []}
use native.Mathlib.Omega.{arith}
use borrow.Author.Rules.{rules}
use lib.ListN.{length}
use Rattle.bytes_records.specs.Table.{HoldsRows}
use Rattle.bytes_records.specs.TableLaws.{row_width}
use Rattle.panel_plan.specs.PlanRows.{source_width}
use Rattle.panel_plan.proofs.Numbered.{Numbering, numbering_start, numbering_more, numbering_end}
use Rattle.panel_plan.proofs.fill.number_rows.Given as goal

abbrev pub invariant-loop-i : goal.invariant-loop-i
invariant-loop-i l =
    (length l.row ≡ l.front + source_width) × (length l.to ≡ length l.initial.to) × ((rows : List (List ℕ)) → l.front ≤ l.width → HoldsRows l.width l.count l.from rows → HoldsRows (l.front + source_width) 0 l.initial.to []
    → l.count * (l.front + source_width) ≤ length l.initial.to → Numbering l.front l.i l.to rows)
