-- Positions among the stored entries: where an entry goes before its neighbour, or last of its collection.
use Rattle.std.specs.Prelude.{ℕ, ◌-◌, ◌≤◌, Bool, true, false, List, eqb, ltb, if◌then◌else◌}
use Rattle.std.proofs.Math.Option.{Option, none, some}
use Rattle.spec_projection.specs.Projection.{Entry}
use Rattle.spec_projection.specs.Entries.{is_entry, is_later}
use Rattle.bytes_records.specs.Positions.{first_index}
use Rattle.bytes_records.specs.Search.{find_first_row}
use Rattle.std.specs.Prelude as code
use Rattle.std.specs.Prelude.{Some, None}

-- a neighbour by a test and a number: whether one is named, and its key
unfoldable pub neighbour_of : Bool → ℕ → Option ℕ
neighbour_of placed k = if placed then some k else none

unfoldable pub is_placed : Option ℕ → Bool
is_placed none = false
is_placed (some k) = true

unfoldable pub neighbour_key : Option ℕ → ℕ
neighbour_key none = 0
neighbour_key (some k) = k

-- before the neighbour, if it is there; or before the first entry of a later collection
unfoldable pub place_before : ℕ → Option ℕ → List Entry → code.Option ℕ
place_before c none es = Some (first_index (is_later c) es)
place_before c (some k) es = find_first_row (is_entry c k) es

-- one of n, or behind them
unfoldable pub PositionWithin : ℕ → code.Option ℕ → Type 0
PositionWithin n (Some i) = i ≤ n
PositionWithin n None = Unit {0}

-- the neighbour is the key itself
unfoldable pub is_itself : ℕ → Option ℕ → Bool
is_itself k none = false
is_itself k (some b) = eqb b k

-- the place of another entry than the key's own
unfoldable pub place_before_other : ℕ → ℕ → Option ℕ → List Entry → code.Option ℕ
place_before_other c k before es = if is_itself k before then None else place_before c before es

-- a position once the element before it, or at another place, is taken out
unfoldable pub without_at : ℕ → ℕ → ℕ
without_at from to = if ltb from to then to - 1 else to
