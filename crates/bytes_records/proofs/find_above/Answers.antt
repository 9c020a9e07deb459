-- `bytes_records::find_above` meets its contract. The invariant: the position is not before `low` and not behind `high`.
use mathlib.Core.Path.{◌≡◌, ap, ◌∙◌}
use mathlib.Core.List.{List, []}
use Prim.Native.Nat.{ℕ, ◌+◌, ◌-◌, ◌*◌, ◌/◌, ◌≤◌}
use native.Mathlib.Omega.{arith}
use lib.ListN.{length, get_or}
use borrow.Author.Rules.{rules}
use borrow.Author.Tests.{lt-ltb}
use Rattle.spec_lists.specs.Bytes.{number_of}
use Rattle.bytes_records.specs.PositionsLaws.{first_index_le, first_le}
use Rattle.bytes_records.specs.Table.{HoldsRows}
use Rattle.bytes_records.specs.TableLaws.{rows_fit}
use Rattle.bytes_records.specs.Search.{first_row_number, is_above}
use Rattle.bytes_records.specs.SearchLaws.{above_later}
use Rattle.bytes_records.proofs.Offsets.{end_le, fits, fits_not}
use Rattle.bytes_records.proofs.Searches.{row_head_is}
use Rattle.bytes_records.proofs.find_above.Goals as goal
use Rattle.bytes_records.proofs.find_above.Goals.{After-number_of, At-loop-low, In-loop-low}

-- the position in the middle
abbrev middle : At-loop-low → ℕ
middle c = c.loop-low.low + (c.loop-low.high - c.loop-low.low) / 2

-- the row at that position is within the table
placed : (c : In-loop-low) → ((c.loop-low.low + (c.loop-low.high - c.loop-low.low) / 2) * c.args.width + c.args.width ≤ c.args.count * c.args.width) × (c.args.count * c.args.width ≤ length c.args.table.now)
placed c =
    (end_le c.args.width ((c.loop-low.low + (c.loop-low.high - c.loop-low.low) / 2)) c.args.count (search rules), fits (length c.args.table.now) c.args.width c.args.count (search rules) (search rules))

-- the number that was read is that of the row in the middle
read-row : (c : After-number_of) (m : List (List ℕ)) → HoldsRows c.args.width c.args.count c.args.table.now m → c.number_of.result ≡ first_row_number (get_or m ((c.loop-low.low + (c.loop-low.high - c.loop-low.low) / 2)) [])
read-row c m t =
    c.number_of.ensures ∙ ap number_of (row_head_is m t ((c.loop-low.low + (c.loop-low.high - c.loop-low.low) / 2)) (search rules) (search rules))

pub returns-then-table-width : goal.returns-then-table-width
returns-then-table-width c =
    record { first = (λ m t rising. absurd (omega (arith, rows_fit t, fits_not _ _ _ (search rules) c.if-table-width.true))); within = search rules }

pub loop-low-init : goal.loop-low-init
loop-low-init c = (search rules, search rules, λ m t rising. (omega arith, omega (arith, first_index_le (is_above c.args.id) m, t.counted)))

pub overflow_mul-from : goal.overflow_mul-from
overflow_mul-from c = omega (arith, placed c)

pub overflow_add-end : goal.overflow_add-end
overflow_add-end c = omega (arith, placed c)

pub slice_bounds-number_of-end : goal.slice_bounds-number_of-end
slice_bounds-number_of-end c = omega (arith, placed c)

pub loop-low-preserved-then-id-number_of : goal.loop-low-preserved-then-id-number_of
loop-low-preserved-then-id-number_of c = (
  search rules,
  search rules,
  λ m t rising. (
    (c.loop-low.invariant.2 m t rising).0,
    first_le (is_above c.args.id) m (middle (goal.at.loop-low-preserved-then-id-number_of c).At-loop-low) [] (omega (arith, t.counted)) (lt-ltb c.args.id _ (omega (arith, read-row (goal.at.loop-low-preserved-then-id-number_of c).After-number_of m t))),
  ),
)

pub loop-low-preserved : goal.loop-low-preserved
loop-low-preserved c = (
  search rules,
  search rules,
  λ m t rising. (
    omega (arith, above_later m rising c.args.id (middle (goal.at.loop-low-preserved c).At-loop-low) (omega (arith, t.counted)) (omega (arith, read-row (goal.at.loop-low-preserved c).After-number_of m t))),
    (c.loop-low.invariant.2 m t rising).1,
  ),
)

pub returns : goal.returns
returns c =
    record { first = (λ m t rising. omega (arith, c.loop-low.invariant.2 m t rising)); within = search rules }
