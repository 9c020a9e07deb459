use mathlib.Core.List.{List}
use Prim.Native.Nat.{ℕ, ◌-◌, ◌≤◌}
use Rattle.bytes_records.specs.Positions.{first_index}
use Rattle.bytes_records.specs.Table.{HoldsRows}
use Rattle.bytes_records.specs.Search.{is_above, Rising}
use Rattle.bytes_records.proofs.find_above.Given as goal

abbrev pub invariant-loop-low : goal.invariant-loop-low
invariant-loop-low l =
    (l.low ≤ l.high) × (l.high ≤ l.count) × ((m : List (List ℕ)) → HoldsRows l.width l.count l.table m → Rising m → (l.low ≤ first_index (is_above l.id) m) × (first_index (is_above l.id) m ≤ l.high))

abbrev pub decreases-loop-low : goal.decreases-loop-low
decreases-loop-low l = l.high - l.low
