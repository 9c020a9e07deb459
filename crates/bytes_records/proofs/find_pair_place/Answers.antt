-- `bytes_records::find_pair_place` meets its contract. The invariant: every row before position `place` is below the two numbers.
use mathlib.Core.Path.{◌≡◌, sym, ◌∙◌}
use mathlib.Core.List.{List, [], ◌∷◌}
use Prim.Native.Nat.{ℕ, ◌+◌, ◌*◌, ◌≤◌}
use native.Mathlib.Omega.{arith}
use lib.ListN.{length, get_or}
use borrow.Author.Rules.{rules}
use Rattle.bytes_records.specs.Table.{HoldsRows}
use Rattle.bytes_records.specs.TableLaws.{rows_fit}
use Rattle.bytes_records.specs.Keys.{leading_numbers, order_of}
use Rattle.bytes_records.specs.Search.{PlaceWithin}
use Rattle.bytes_records.proofs.Offsets.{end_le, fits, fits_not}
use Rattle.bytes_records.proofs.Changes.{row_is}
use Rattle.bytes_records.proofs.Searches.{placed_none, placed_more, placed_taken, placed_before, placed_all}
use Rattle.bytes_records.proofs.find_pair_place.Goals as goal
use Rattle.bytes_records.proofs.find_pair_place.Goals.{After-compare, In-loop-place}

-- the row at position `place` is within the table
placed : (c : In-loop-place) → (c.loop-place.place * c.args.width + c.args.width ≤ c.args.count * c.args.width)
    × (c.args.count * c.args.width ≤ length c.args.table.now)
placed c =
    (end_le c.args.width c.loop-place.place c.args.count (search rules), fits (length c.args.table.now) c.args.width c.args.count (search rules) (search rules))

-- what the call answered is how the row at position `place` stands to the two numbers
compared-row : (c : After-compare) (m : List (List ℕ)) → HoldsRows c.args.width c.args.count c.args.table.now m
    → order_of (leading_numbers (8 ∷ c.args.size ∷ []) (get_or m c.loop-place.place [])) (c.args.id ∷ c.args.second ∷ []) ≡ c.compare.result
compared-row c m t =
    sym (c.compare.ensures ∙ rw (row_is m t c.loop-place.place c.loop-place-test.true))

pub returns-then-table-width : goal.returns-then-table-width
unfolding PlaceWithin
returns-then-table-width c = record { first = (λ m t. absurd (omega (arith, rows_fit t, fits_not _ _ _ (search rules) c.if-table-width.true))); within = search rules }

pub loop-place-init : goal.loop-place-init
loop-place-init c = (search rules, λ m t. placed_none _ _ m)

pub overflow_mul-from : goal.overflow_mul-from
overflow_mul-from c = omega (arith, placed c)

pub overflow_add-end : goal.overflow_add-end
overflow_add-end c = omega (arith, placed c)

pub slice_bounds-compare-end : goal.slice_bounds-compare-end
slice_bounds-compare-end c = omega (arith, placed c)

pub returns-in-Equal : goal.returns-in-Equal
unfolding PlaceWithin
returns-in-Equal c =
    record { first = (λ m t. sym (placed_taken _ _ m t c.loop-place.place (c.loop-place.invariant.1 m t) c.loop-place-test.true (compared-row (goal.at.returns-in-Equal c).After-compare m t ∙ c.in-Equal.is))); within = search rules }

pub returns-in-Greater : goal.returns-in-Greater
unfolding PlaceWithin
returns-in-Greater c =
    record { first = (λ m t. sym (placed_before _ _ m t c.loop-place.place (c.loop-place.invariant.1 m t) c.loop-place-test.true (compared-row (goal.at.returns-in-Greater c).After-compare m t ∙ c.in-Greater.is))); within = search rules }

pub loop-place-preserved : goal.loop-place-preserved
loop-place-preserved c =
    (search rules, λ m t. placed_more _ _ m t c.loop-place.place (c.loop-place.invariant.1 m t) c.loop-place-test.true (compared-row (goal.at.loop-place-preserved c).After-compare m t ∙ c.in-Less.is))

pub returns : goal.returns
unfolding PlaceWithin
returns c =
    record { first = (λ m t. sym (placed_all _ _ m t c.loop-place.place (c.loop-place.invariant.1 m t) c.loop-place-test.false (search rules))); within = search rules }
