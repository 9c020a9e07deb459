-- `bytes_records::remove_record` meets its contract: the table's part from the position on has one row popped.
use Prim.Native.Nat.{◌+◌, ◌*◌, ◌≤◌}
use native.Mathlib.Omega.{arith}
use lib.ListN.{length, length-take, length-drop}
use borrow.Author.Rules.{rules}
use Rattle.bytes_records.proofs.Offsets.{end_le, fits, fits_not}
use Rattle.bytes_records.proofs.Changes.{change_refused, change_made, remove_holds, remove_past, remove_outside, remove_can}
use Rattle.bytes_records.proofs.remove_record.Goals as goal
use Rattle.bytes_records.proofs.remove_record.Goals.{Else-table-width}

-- the row is among those of the table, and these are within it
placed : (c : Else-table-width) → (c.args.at * c.args.width + c.args.width ≤ c.args.count * c.args.width) × (c.args.count * c.args.width ≤ length c.args.table.now)
placed c =
    (end_le c.args.width c.args.at c.args.count (search rules), fits (length c.args.table.now) c.args.width c.args.count (search rules) (search rules))

pub returns-then-count-at : goal.returns-then-count-at
returns-then-count-at c = change_refused (remove_past _ _ _ _ (search rules))

pub returns-then-table-width : goal.returns-then-table-width
returns-then-table-width c =
    change_refused (remove_outside _ _ _ _ (search rules) (fits_not (length c.args.table.now) c.args.width c.args.count (search rules) (search rules)))

pub overflow_mul-from : goal.overflow_mul-from
overflow_mul-from c = omega (arith, placed c)

pub overflow_mul-end : goal.overflow_mul-end
overflow_mul-end c = omega (arith, placed c)

pub slice_bounds-pop_front-count : goal.slice_bounds-pop_front-count
slice_bounds-pop_front-count c = omega (arith, placed c)

pub slice_bounds-pop_front-start : goal.slice_bounds-pop_front-start
slice_bounds-pop_front-start c = omega (arith, placed c)

pub slice_bounds-pop_front-end : goal.slice_bounds-pop_front-end
slice_bounds-pop_front-end c = omega (arith, placed c)

pub pop_front-requires : goal.pop_front-requires
pop_front-requires c = simp (length-take, length-drop) (omega (arith, placed (goal.at.pop_front-requires c).Else-table-width))

pub returns : goal.returns
returns c =
    change_made
    (remove_can _ _ _ _ (search rules) (placed (goal.at.returns c).Else-table-width).1)
    (λ m t. remove_holds m t c.args.at (search rules) _ c.pop_front.ensures)
