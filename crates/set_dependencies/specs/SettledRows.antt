-- How settled keys are stored: one row for each, in the order of their keys.
use Rattle.std.specs.Prelude.{ℕ, ◌+◌, ◌*◌, ◌/◌, ◌≤◌, ◌≡◌, Bool, true, false, List, [], ◌∷◌, ◌++◌, map, length, drop}
use Rattle.spec_lists.specs.Lists.{All}
use Rattle.spec_lists.specs.Order.{Ascending}
use Rattle.spec_patch.specs.Sizes.{set_bytes}
use Rattle.spec_patch.specs.Encode.{u64}
use Rattle.spec_patch.specs.Fits.{U64}
use Rattle.spec_dependencies.specs.Settled.{Settled, settled_key}
use Rattle.bytes_records.specs.Table.{HoldsRows}
use Rattle.set_dependencies.specs.declared.settled_rows.SettledKey.{SettledKey}
use Rattle.set_dependencies.specs.declared.settled_rows.SettledPlaces.{SettledPlaces}

-- where the key stands in a row, and the two bytes behind it
abbrev pub settled_key_at : ℕ
settled_key_at = 8

abbrev pub at_start_at : ℕ
at_start_at = settled_key_at + 8

abbrev pub present_at : ℕ
present_at = at_start_at + 1

abbrev pub row_width : ℕ
row_width = present_at + 1

-- the collection and the key, in bytes
abbrev pub row_fields : List ℕ
row_fields = 8 ∷ 8 ∷ []

-- a byte that says whether
abbrev pub flag : Bool → ℕ
flag true = 1
flag false = 0

-- collection, key, whether it must be there at the start, whether it is there now
unfoldable pub settled_row : Settled → List ℕ
settled_row s = u64 s.collection ++ (u64 s.key ++ (flag s.at_start ∷ flag s.now ∷ []))

-- a set takes 13 bytes for each key that it looks for
abbrev pub row_capacity : ℕ
row_capacity = set_bytes / 13

abbrev pub settled_of : SettledKey → Settled
settled_of s = record { collection = s.collection; key = s.key; at_start = s.at_start; now = s.present }

-- both numbers fit their fields
pub record FitsSettled (s : Settled) : Type 0 where
  pub collection : U64 s.collection
  pub key : U64 s.key

-- so many rows store what is settled
pub record SettledTable (count : ℕ) (table : List ℕ) (t : List Settled) : Type 0 where
  pub rows : HoldsRows row_width count table (map settled_row t)
  pub fit : All FitsSettled t
  pub ascending : Ascending settled_key t

-- ---- a table that grows to both sides

-- the table has these rows, from the place on at which they start: that of the first row is in the middle, and there is room for as many as a set can
-- look for on either side of it
pub record RowsIn (p : SettledPlaces) (table : List ℕ) (rows : List (List ℕ)) : Type 0 where
  pub size : length table ≡ 2 * (row_capacity * row_width)
  pub low : p.start ≤ row_capacity
  pub high : row_capacity ≤ p.start + p.count
  pub held : HoldsRows row_width p.count (drop (p.start * row_width) table) rows

-- its rows store what is settled
pub record SettledIn (p : SettledPlaces) (table : List ℕ) (t : List Settled) : Type 0 where
  pub rows : RowsIn p table (map settled_row t)
  pub fit : All FitsSettled t
  pub ascending : Ascending settled_key t

-- no rows yet
abbrev pub no_places : SettledPlaces
no_places = record { start = row_capacity; count = 0 }
