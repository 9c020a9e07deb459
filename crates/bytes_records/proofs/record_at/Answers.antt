-- `bytes_records::record_at` meets its contract: the part that is lent is the row, and there is none past the last.
use mathlib.Core.Path.{sym}
use Prim.Native.Nat.{◌+◌, ◌*◌, ◌≤◌}
use native.Mathlib.Omega.{arith}
use lib.ListN.{length, length-take}
use borrow.Author.Rules.{rules}
use Rattle.bytes_records.specs.TableLaws.{rows_fit, row_past}
use Rattle.bytes_records.proofs.Offsets.{end_le, fits, fits_not}
use Rattle.bytes_records.proofs.Changes.{row_is}
use Rattle.bytes_records.proofs.record_at.Goals as goal
use Rattle.bytes_records.proofs.record_at.Goals.{Else-table-width}

-- the row is among those of the table, and these are within it
placed : (c : Else-table-width) → (c.args.at * c.args.width + c.args.width ≤ c.args.count * c.args.width) × (c.args.count * c.args.width ≤ length c.args.table.now)
placed c =
    (end_le c.args.width c.args.at c.args.count (search rules), fits (length c.args.table.now) c.args.width c.args.count (search rules) (search rules))

pub returns-then-count-at : goal.returns-then-count-at
returns-then-count-at c = record { row = (λ m t. sym (row_past t _ (search rules))); within = search rules }

pub returns-then-table-width : goal.returns-then-table-width
returns-then-table-width c =
    record { row = (λ m t. absurd (omega (arith, rows_fit t, fits_not _ _ _ c.requires c.if-table-width.true))); within = search rules }

pub overflow_mul-start : goal.overflow_mul-start
overflow_mul-start c = omega (arith, placed c)

pub overflow_add-stop : goal.overflow_add-stop
overflow_add-stop c = omega (arith, placed c)

pub slice_bounds-result-end-2 : goal.slice_bounds-result-end-2
slice_bounds-result-end-2 c = omega (arith, placed c)

pub returns : goal.returns
returns c = record { row = (λ m t. row_is m t _ (search rules)); within = simp length-take (omega arith) }
