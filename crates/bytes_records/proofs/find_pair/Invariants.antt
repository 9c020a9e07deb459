use mathlib.Core.List.{List}
use Prim.Native.Nat.{ℕ, ◌-◌, ◌≤◌}
use Rattle.bytes_records.specs.Positions.{first_index}
use Rattle.bytes_records.specs.Table.{HoldsRows}
use Rattle.bytes_records.specs.Search.{is_pair, Rising, Starts}
use Rattle.bytes_records.proofs.find_pair.Given as goal

abbrev pub invariant-loop-at : goal.invariant-loop-at
invariant-loop-at l =
    (l.initial.at ≤ l.at) × (l.at ≤ l.count) × ((m : List (List ℕ)) → HoldsRows l.width l.count l.table m → Rising m → Starts l.id l.initial.at m × (l.at ≤ first_index (is_pair l.id l.second) m))

abbrev pub decreases-loop-at : goal.decreases-loop-at
decreases-loop-at l = l.count - l.at
