-- A table of records: one list of bytes that holds rows of one width in stored order, each row a list of bytes.
use Rattle.std.specs.Prelude.{ℕ, ◌+◌, ◌-◌, ◌*◌, ◌≡◌, Bool, true, false, ◌&&◌, eqb, ltb, leb, length}
use mathlib.Core.List.{List, ◌++◌, flatten}
use Rattle.spec_lists.specs.Lists.{All}
use Rattle.bytes_records.specs.Moves.{zeros}

-- a row that is so many bytes wide
abbrev pub Wide : ℕ → List ℕ → Type 0
Wide width row = length row ≡ width

-- the bytes of a table: the rows one after the other, and 0 in every unused place
unfoldable pub table_bytes : ℕ → List (List ℕ) → List ℕ
table_bytes size rows = flatten rows ++ zeros (size - length (flatten rows))

-- the table holds these rows, so many and so wide
pub record HoldsRows (width count : ℕ) (table : List ℕ) (rows : List (List ℕ)) : Type 0 where
  pub wide : All (Wide width) rows
  pub counted : length rows ≡ count
  pub bytes : table ≡ table_bytes (length table) rows

-- ---- when a table of so many bytes can be changed

-- the row is as wide as the others, its place is among them or behind them, and there is room for one more
unfoldable pub can_insert : (size width count at : ℕ) → List ℕ → Bool
can_insert size width count at row = leb at count && (eqb (length row) width && leb (count * width + width) size)

-- there is such a row
unfoldable pub can_remove : (size width count at : ℕ) → Bool
can_remove size width count at = ltb at count && leb (count * width) size

-- there is such a row, and the new one is as wide
unfoldable pub can_replace : (size width count at : ℕ) → List ℕ → Bool
can_replace size width count at row = ltb at count && (eqb (length row) width && leb (count * width) size)

-- there are such rows, and the new one is as wide
unfoldable pub can_move : (size width count from to : ℕ) → List ℕ → Bool
can_move size width count from to row = ltb from count && (ltb to count && (eqb (length row) width && leb (count * width) size))

-- what a change of a table answers, and what the table is afterwards: it is made where it can be, and nothing changes otherwise
pub record Changed (width count newCount : ℕ) (change : List (List ℕ) → List (List ℕ)) (can : Bool) (entry exit : List ℕ) (answer : Bool) : Type 0 where
  pub told : answer ≡ can
  pub made : answer ≡ true → (rows : List (List ℕ)) → HoldsRows width count entry rows → HoldsRows width newCount exit (change rows)
  pub kept : answer ≡ false → exit ≡ entry
