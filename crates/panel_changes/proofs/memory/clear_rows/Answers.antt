-- `clear_rows` meets its contract: behind the rows that are cleared there are zeros already.
use Prim.Native.Nat.{ℕ, ◌-◌, ◌*◌, ◌≤◌}
use mathlib.Core.Path.{◌≡◌, refl, sym, ap, ◌∙◌}
use mathlib.Core.List.{List, [], ◌++◌}
use native.Mathlib.Nat.{mul-le-mul}
use native.Mathlib.Omega.{arith}
use lib.ListN.{length, take, drop, take-append-drop}
use lib.Seq.{length-take-le}
use borrow.Author.Rules.{rules}
use Rattle.spec_patch.specs.Sizes.{projection_entries}
use Rattle.bytes_records.proofs.Parts.{lent}
use Rattle.bytes_records.specs.Moves.{zeros}
use Rattle.panel_plan.specs.PlanRows.{planned_entry_width}
use Rattle.panel_changes.specs.PlanMemoryLaws.{cleared_table}
use Rattle.panel_changes.proofs.memory.clear_rows.Goals as goal

pub returns-then-count-gt-ENTRIES : goal.returns-then-count-gt-ENTRIES
returns-then-count-gt-ENTRIES c = λ few. absurd (omega (arith, few, c.if-count-gt-ENTRIES.true))

pub returns-then-table-size : goal.returns-then-table-size
returns-then-table-size c = λ few room. absurd (omega (arith, room, c.if-table-size.true))

pub overflow_mul-size : goal.overflow_mul-size
overflow_mul-size c =
    omega (arith, mul-le-mul {n₁ = c.args.count} {m₁ = c.args.width} {n₂ = projection_entries} {m₂ = planned_entry_width} c.if-count-gt-ENTRIES.false c.requires)

pub returns : goal.returns
returns c = λ few room clear.
    let size = c.args.count * c.args.width in
    let long : length (take size c.args.table.now) ≡ size = length-take-le size c.args.table.now room in
    let put = lent c.args.table.now [] (take size c.args.table.now) (drop size c.args.table.now) 0 (size - 0) (sym (take-append-drop size c.args.table.now)) refl (omega (arith, long)) (λ (l : List ℕ). zeros (length l)) _ c.clear.ensures in
    put ∙ ap (λ (k : ℕ). zeros k ++ drop size c.args.table.now) long ∙ cleared_table c.args.count c.args.width c.args.table.now room clear
