-- `bytes_records::move_record` meets its contract: the table's part from the one position to the other is pushed by one row.
use Prim.Native.Nat.{◌+◌, ◌*◌, ◌≤◌}
use native.Mathlib.Omega.{arith}
use lib.ListN.{length, length-take, length-drop}
use borrow.Author.Rules.{rules}
use Rattle.bytes_records.proofs.Offsets.{start_le, end_le, fits, fits_not}
use Rattle.bytes_records.proofs.Changes.{change_refused, change_made}
use Rattle.bytes_records.proofs.Moved.{moved_later, moved_earlier, move_from_past, move_to_past, move_other, move_outside, move_can}
use Rattle.bytes_records.proofs.move_record.Goals as goal
use Rattle.bytes_records.proofs.move_record.Goals.{Else-from-to, Else-table-width, Then-from-to}

-- both positions are among the rows of the table, and these are within it
placed : (c : Else-table-width) → (c.args.from * c.args.width + c.args.width ≤ c.args.count * c.args.width) × (c.args.to * c.args.width + c.args.width ≤ c.args.count * c.args.width)
    × (c.args.count * c.args.width ≤ length c.args.table.now)
placed c =
    (end_le c.args.width c.args.from c.args.count (search rules), end_le c.args.width c.args.to c.args.count (search rules), fits (length c.args.table.now) c.args.width c.args.count (search rules) (search rules))

-- the row at `from` ends before the one at `to`
later : (c : Then-from-to) → c.args.from * c.args.width + c.args.width ≤ c.args.to * c.args.width
later c =
    end_le c.args.width c.args.from c.args.to (search rules)

-- the row at `to` is not behind the one at `from`
earlier : (c : Else-from-to) → c.args.to * c.args.width ≤ c.args.from * c.args.width
earlier c =
    start_le c.args.width (search rules)

pub returns-then-count-from : goal.returns-then-count-from
returns-then-count-from c = change_refused (move_from_past _ _ _ _ _ _ (search rules))

pub returns-then-count-to : goal.returns-then-count-to
returns-then-count-to c = change_refused (move_to_past _ _ _ _ _ _ (search rules) (search rules))

pub returns-then-row-width : goal.returns-then-row-width
returns-then-row-width c = change_refused (move_other _ _ _ _ _ _ (search rules) (search rules) c.if-row-width.true)

pub returns-then-table-width : goal.returns-then-table-width
returns-then-table-width c =
    change_refused
    (move_outside _ _ _ _ _ _ (search rules) (search rules) (search rules) (fits_not (length c.args.table.now) c.args.width c.args.count (search rules) (search rules)))

pub overflow_mul-start : goal.overflow_mul-start
overflow_mul-start c = omega (arith, placed (goal.at.overflow_mul-start c).Else-table-width)

pub overflow_mul-end : goal.overflow_mul-end
overflow_mul-end c = omega (arith, placed (goal.at.overflow_mul-end c).Else-table-width)

pub overflow_add-end : goal.overflow_add-end
overflow_add-end c = omega (arith, placed (goal.at.overflow_add-end c).Else-table-width)

pub slice_bounds-push_back-count : goal.slice_bounds-push_back-count
slice_bounds-push_back-count c = omega (arith, later c)

pub slice_bounds-push_back-start : goal.slice_bounds-push_back-start
slice_bounds-push_back-start c = omega (arith, later c)

pub slice_bounds-push_back-end : goal.slice_bounds-push_back-end
slice_bounds-push_back-end c = omega (arith, placed (goal.at.slice_bounds-push_back-end c).Else-table-width)

pub push_back-requires : goal.push_back-requires
push_back-requires c = simp (length-take, length-drop) (omega (arith, later (goal.at.push_back-requires c).Then-from-to, placed (goal.at.push_back-requires c).Else-table-width))

pub overflow_mul-start-else-from-to : goal.overflow_mul-start-else-from-to
overflow_mul-start-else-from-to c = omega (arith, placed (goal.at.overflow_mul-start-else-from-to c).Else-table-width)

pub overflow_mul-end-else-from-to : goal.overflow_mul-end-else-from-to
overflow_mul-end-else-from-to c = omega (arith, placed (goal.at.overflow_mul-end-else-from-to c).Else-table-width)

pub overflow_add-end-else-from-to : goal.overflow_add-end-else-from-to
overflow_add-end-else-from-to c = omega (arith, placed (goal.at.overflow_add-end-else-from-to c).Else-table-width)

pub slice_bounds-push_front-count : goal.slice_bounds-push_front-count
slice_bounds-push_front-count c = omega (arith, earlier c)

pub slice_bounds-push_front-start : goal.slice_bounds-push_front-start
slice_bounds-push_front-start c = omega (arith, earlier c)

pub slice_bounds-push_front-end : goal.slice_bounds-push_front-end
slice_bounds-push_front-end c = omega (arith, placed (goal.at.slice_bounds-push_front-end c).Else-table-width)

pub push_front-requires : goal.push_front-requires
push_front-requires c = simp (length-take, length-drop) (omega (arith, earlier (goal.at.push_front-requires c).Else-from-to, placed (goal.at.push_front-requires c).Else-table-width))

pub returns-then-from-to : goal.returns-then-from-to
returns-then-from-to c =
    change_made
    (move_can _ _ _ _ _ _ (search rules) (search rules) (search rules) (placed (goal.at.returns-then-from-to c).Else-table-width).2)
    (λ m t. moved_later m t c.args.from c.args.to c.args.row.now (search rules) (search rules) (search rules) _ c.push_back.ensures)

pub returns-else-from-to : goal.returns-else-from-to
returns-else-from-to c =
    change_made
    (move_can _ _ _ _ _ _ (search rules) (search rules) (search rules) (placed (goal.at.returns-else-from-to c).Else-table-width).2)
    (λ m t. moved_earlier m t c.args.from c.args.to c.args.row.now (search rules) (search rules) (search rules) _ c.push_front.ensures)
