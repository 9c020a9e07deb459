-- `bytes_records::insert_record` meets its contract: the table's part from the position on is pushed up by one row.
use Prim.Native.Nat.{◌+◌, ◌*◌, ◌≤◌}
use native.Mathlib.Omega.{arith}
use lib.ListN.{length, length-take, length-drop}
use borrow.Author.Rules.{rules}
use Rattle.bytes_records.proofs.Offsets.{start_le, room, room_not}
use Rattle.bytes_records.proofs.Changes.{change_refused, change_made, insert_holds, insert_past, insert_other, insert_full, insert_can}
use Rattle.bytes_records.proofs.insert_record.Goals as goal
use Rattle.bytes_records.proofs.insert_record.Goals.{Else-table-width}

-- the position and the room behind the last row are within the table
placed : (c : Else-table-width) → (c.args.at * c.args.width ≤ c.args.count * c.args.width) × (c.args.count * c.args.width + c.args.width ≤ length c.args.table.now)
placed c =
    (start_le c.args.width (search rules), room (length c.args.table.now) c.args.width c.args.count (search rules) (search rules))

pub returns-then-count-at : goal.returns-then-count-at
returns-then-count-at c = change_refused (insert_past _ _ _ _ _ (search rules))

pub returns-then-row-width : goal.returns-then-row-width
returns-then-row-width c = change_refused (insert_other _ _ _ _ _ (search rules) c.if-row-width.true)

pub returns-then-table-width : goal.returns-then-table-width
returns-then-table-width c =
    change_refused
    (insert_full _ _ _ _ _ (search rules) (search rules) (room_not (length c.args.table.now) c.args.width c.args.count (search rules) (search rules)))

pub overflow_mul-from : goal.overflow_mul-from
overflow_mul-from c = omega (arith, placed c)

pub overflow_mul-end : goal.overflow_mul-end
overflow_mul-end c = omega (arith, placed c)

pub overflow_add-end : goal.overflow_add-end
overflow_add-end c = omega (arith, placed c)

pub slice_bounds-push_front-count : goal.slice_bounds-push_front-count
slice_bounds-push_front-count c = omega (arith, placed c)

pub slice_bounds-push_front-start : goal.slice_bounds-push_front-start
slice_bounds-push_front-start c = omega (arith, placed c)

pub slice_bounds-push_front-end : goal.slice_bounds-push_front-end
slice_bounds-push_front-end c = omega (arith, placed c)

pub push_front-requires : goal.push_front-requires
push_front-requires c = simp (length-take, length-drop) (omega (arith, placed (goal.at.push_front-requires c).Else-table-width))

pub returns : goal.returns
returns c =
    change_made
    (insert_can _ _ _ _ _ (search rules) (search rules) (placed (goal.at.returns c).Else-table-width).1)
    (λ m t. insert_holds m t c.args.at c.args.row.now (search rules) (search rules) (placed (goal.at.returns c).Else-table-width).1 _ c.push_front.ensures)
