-- `bytes_records::replace_record` meets its contract: the table's part that is the row is written over.
use Prim.Native.Nat.{◌+◌, ◌*◌, ◌≤◌}
use native.Mathlib.Omega.{arith}
use lib.ListN.{length}
use borrow.Author.Rules.{rules}
use Rattle.bytes_records.proofs.Offsets.{end_le, fits, fits_not}
use Rattle.bytes_records.proofs.Changes.{change_refused, change_made, replace_holds, replace_past, replace_other, replace_outside, replace_can}
use Rattle.bytes_records.proofs.replace_record.Goals as goal
use Rattle.bytes_records.proofs.replace_record.Goals.{Else-table-width}

-- the row is among those of the table, and these are within it
placed : (c : Else-table-width) → (c.args.at * c.args.width + c.args.width ≤ c.args.count * c.args.width) × (c.args.count * c.args.width ≤ length c.args.table.now)
placed c =
    (end_le c.args.width c.args.at c.args.count (search rules), fits (length c.args.table.now) c.args.width c.args.count (search rules) (search rules))

pub returns-then-count-at : goal.returns-then-count-at
returns-then-count-at c = change_refused (replace_past _ _ _ _ _ (search rules))

pub returns-then-row-width : goal.returns-then-row-width
returns-then-row-width c = change_refused (replace_other _ _ _ _ _ (search rules) c.if-row-width.true)

pub returns-then-table-width : goal.returns-then-table-width
returns-then-table-width c =
    change_refused
    (replace_outside _ _ _ _ _ (search rules) (search rules) (fits_not (length c.args.table.now) c.args.width c.args.count (search rules) (search rules)))

pub overflow_mul-from : goal.overflow_mul-from
overflow_mul-from c = omega (arith, placed c)

pub overflow_add-end : goal.overflow_add-end
overflow_add-end c = omega (arith, placed c)

pub slice_bounds-copy-end : goal.slice_bounds-copy-end
slice_bounds-copy-end c = omega (arith, placed c)

pub returns : goal.returns
returns c =
    change_made
    (replace_can _ _ _ _ _ (search rules) (search rules) (placed (goal.at.returns c).Else-table-width).1)
    (λ m t. replace_holds m t c.args.at (search rules) c.args.row.now (search rules) _ c.copy.ensures)
