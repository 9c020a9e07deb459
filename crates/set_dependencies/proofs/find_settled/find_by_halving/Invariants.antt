use mathlib.Core.Path.{◌≡◌, sym, ◌∙◌}
use mathlib.Core.List.{List, [], ◌∷◌}
use Prim.Native.Nat.{ℕ, ◌+◌, ◌-◌, ◌*◌, ◌/◌, ◌≤◌}
use native.Mathlib.Omega.{arith}
use lib.ListN.{length, get_or}
use borrow.Author.Rules.{rules}
use Rattle.spec_lists.specs.Order.{Ascending}
use Rattle.bytes_records.specs.Table.{HoldsRows}
use Rattle.bytes_records.specs.TableLaws.{rows_fit}
use Rattle.bytes_records.specs.Keys.{leading_numbers, order_of}
use Rattle.bytes_records.specs.Search.{PlaceWithin}
use Rattle.bytes_records.proofs.Offsets.{end_le, fits, fits_not}
use Rattle.bytes_records.proofs.Changes.{row_is}
use Rattle.set_dependencies.specs.SettledRows.{row_fields}
use Rattle.set_dependencies.specs.HalvingLaws.{Between, between_all, between_none, between_above, between_below, between_taken}
use Rattle.set_dependencies.proofs.find_settled.find_by_halving.Given as goal

abbrev pub invariant-loop-low : goal.invariant-loop-low
invariant-loop-low l =
    (l.low ≤ l.high) × (l.high ≤ l.count) × ((m : List (List ℕ)) → HoldsRows l.width l.count l.table m → Ascending (leading_numbers row_fields) m → Between (leading_numbers row_fields) [] (l.id ∷ l.second ∷ []) l.low l.high m)

abbrev pub decreases-loop-low : goal.decreases-loop-low
decreases-loop-low l = l.high - l.low
