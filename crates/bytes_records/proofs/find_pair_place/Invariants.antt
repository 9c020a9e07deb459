use mathlib.Core.List.{List, [], ◌∷◌}
use Prim.Native.Nat.{ℕ, ◌-◌, ◌≤◌}
use Rattle.bytes_records.specs.Table.{HoldsRows}
use Rattle.bytes_records.specs.Keys.{leading_numbers}
use Rattle.bytes_records.proofs.Searches.{Placed}
use Rattle.bytes_records.proofs.find_pair_place.Given as goal

abbrev pub invariant-loop-place : goal.invariant-loop-place
invariant-loop-place l =
    (l.place ≤ l.count) × ((m : List (List ℕ)) → HoldsRows l.width l.count l.table m → Placed (leading_numbers (8 ∷ l.size ∷ [])) (l.id ∷ l.second ∷ []) l.place m)

abbrev pub decreases-loop-place : goal.decreases-loop-place
decreases-loop-place l = l.count - l.place
