-- `find_by_halving` meets its contract. The invariant: rows before position `low` are below the two numbers, and those from `high` on above them.
use mathlib.Core.Path.{◌≡◌, sym, ◌∙◌}
use mathlib.Core.List.{List, [], ◌∷◌}
use Prim.Native.Nat.{ℕ, ◌+◌, ◌-◌, ◌*◌, ◌/◌, ◌≤◌}
use native.Mathlib.Omega.{arith}
use lib.ListN.{length, get_or}
use borrow.Author.Rules.{rules}
use Rattle.spec_lists.specs.Order.{Ascending}
use Rattle.bytes_records.specs.Table.{HoldsRows}
use Rattle.bytes_records.specs.TableLaws.{rows_fit}
use Rattle.bytes_records.specs.Keys.{leading_numbers, order_of}
use Rattle.bytes_records.specs.Search.{PlaceWithin}
use Rattle.bytes_records.proofs.Offsets.{end_le, fits, fits_not}
use Rattle.bytes_records.proofs.Changes.{row_is}
use Rattle.set_dependencies.specs.SettledRows.{row_fields}
use Rattle.set_dependencies.specs.HalvingLaws.{Between, between_all, between_none, between_above, between_below, between_taken}
use Rattle.set_dependencies.proofs.find_settled.find_by_halving.Goals as goal
use Rattle.set_dependencies.proofs.find_settled.find_by_halving.Goals.{After-compare, At-loop-low, In-loop-low}

-- the position in the middle
abbrev middle : At-loop-low → ℕ
middle c = c.loop-low.low + (c.loop-low.high - c.loop-low.low) / 2

-- the row at that position is within the table
placed : (c : In-loop-low) → (middle (goal.at.In-loop-low c).At-loop-low * c.args.width + c.args.width ≤ c.args.count * c.args.width) × (c.args.count * c.args.width ≤ length c.args.table.now)
placed c =
    (end_le c.args.width (middle (goal.at.In-loop-low c).At-loop-low) c.args.count (search rules), fits (length c.args.table.now) c.args.width c.args.count (search rules) (search rules))

-- what the call answered is how the row in the middle stands to the two numbers
compared-row : (c : After-compare) (m : List (List ℕ)) → HoldsRows c.args.width c.args.count c.args.table.now m → order_of (leading_numbers row_fields (get_or m (middle (goal.at.After-compare c).At-loop-low) [])) (c.args.id ∷ c.args.second ∷ []) ≡ c.compare.result
compared-row c m t = sym (c.compare.ensures ∙ rw (row_is m t (middle (goal.at.After-compare c).At-loop-low) (search rules)))

pub returns-then-table-width : goal.returns-then-table-width
unfolding PlaceWithin
returns-then-table-width c = record { first = (λ m t a. absurd (omega (arith, rows_fit t, fits_not _ _ _ (search rules) c.if-table-width.true))); within = search rules }

pub loop-low-init : goal.loop-low-init
loop-low-init c = (search rules, search rules, λ m t a. between_all (leading_numbers row_fields) [] _ m _ t.counted)

pub overflow_mul-from : goal.overflow_mul-from
overflow_mul-from c = omega (arith, placed c)

pub overflow_add-end : goal.overflow_add-end
overflow_add-end c = omega (arith, placed c)

pub slice_bounds-compare-end : goal.slice_bounds-compare-end
slice_bounds-compare-end c = omega (arith, placed c)

pub loop-low-preserved-in-Less : goal.loop-low-preserved-in-Less
loop-low-preserved-in-Less c = (
  search rules,
  search rules,
  λ m t a. between_above (leading_numbers row_fields) [] _ m a _ _ (middle (goal.at.loop-low-preserved-in-Less c).At-loop-low) (c.loop-low.invariant.2 m t a) (omega (arith, t.counted)) (compared-row (goal.at.loop-low-preserved-in-Less c).After-compare m t ∙ c.in-Less.is),
)

pub returns-in-Equal : goal.returns-in-Equal
unfolding PlaceWithin
returns-in-Equal c =
    record { first = (λ m t a. sym (between_taken (leading_numbers row_fields) [] _ m a _ _ (middle (goal.at.returns-in-Equal c).At-loop-low) (c.loop-low.invariant.2 m t a) (omega (arith, t.counted)) (compared-row (goal.at.returns-in-Equal c).After-compare m t ∙ c.in-Equal.is))); within = search rules }

pub loop-low-preserved : goal.loop-low-preserved
loop-low-preserved c = (
  search rules,
  search rules,
  λ m t a. between_below (leading_numbers row_fields) [] _ m a _ _ (middle (goal.at.loop-low-preserved c).At-loop-low) (c.loop-low.invariant.2 m t a) (omega (arith, t.counted)) (compared-row (goal.at.loop-low-preserved c).After-compare m t ∙ c.in-Greater.is),
)

pub returns : goal.returns
unfolding PlaceWithin
returns c =
    let met : c.loop-low.high ≡ c.loop-low.low = omega arith in
    record { first = (λ m t a. sym (between_none (leading_numbers row_fields) [] _ c.loop-low.low m (omega (arith, t.counted)) (rw met at (c.loop-low.invariant.2 m t a)))); within = search rules }
