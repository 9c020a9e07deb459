-- Searches in a list: for the first element that passes a test, and for the place of a key.
use Rattle.std.specs.Prelude.{ℕ, zero, suc, ◌≤◌, ◌<◌, ◌+◌, Bool, ◌&&◌, List, [], ◌∷◌, ltb, eqb, length, take, drop, get_or, if◌then◌else◌}
use Rattle.spec_lists.specs.Lists.{All}
use Rattle.spec_lists.specs.Bytes.{number_of}
use Rattle.spec_lists.specs.Order.{lex_less}
use Rattle.bytes_records.specs.Positions.{insert_at, replace_at, first_index}
use Rattle.std.specs.Prelude.{Option, Some, None, Result, Ok, Err}

-- ---- the numbers of eight bytes that a row begins with

abbrev pub first_row_number : List ℕ → ℕ
first_row_number row = number_of (take 8 row)

abbrev pub second_number : List ℕ → ℕ
second_number row = number_of (take 8 (drop 8 row))

-- the first number is above the id
abbrev pub is_above : ℕ → List ℕ → Bool
is_above id row = ltb id (first_row_number row)

-- the numbers are these two
abbrev pub is_pair : ℕ → ℕ → List ℕ → Bool
is_pair id second row = eqb (first_row_number row) id && eqb (second_number row) second

-- no row's first number is below that of an earlier row
abbrev pub Rising : List (List ℕ) → Type 0
Rising [] = Unit {0}
Rising (row ∷ rows) = All (λ later. first_row_number row ≤ first_row_number later) rows × Rising rows

-- the rows from a position on are those whose first number is not below the id
pub record Starts (id at : ℕ) (rows : List (List ℕ)) : Type 0 where
  pub below : (i : ℕ) → i < at → first_row_number (get_or rows i []) < id
  pub from : (i : ℕ) → at ≤ i → i < length rows → id ≤ first_row_number (get_or rows i [])

-- ---- the first element that passes a test

unfoldable pub find_first_row : {A : Type 0} → (A → Bool) → List A → Option ℕ
find_first_row test l = if ltb (first_index test l) (length l) then Some (first_index test l) else None

-- what was found is one of n
unfoldable pub WithinRows : ℕ → Option ℕ → Type 0
WithinRows n (Some i) = i < n
WithinRows n None = Unit {0}

-- ---- the place of a key in a list that ascends by keys, as `upsert` goes through it

-- the same place with one more element in front
unfoldable pub next_place : Result ℕ ℕ → Result ℕ ℕ
next_place (Ok i) = Ok (suc i)
next_place (Err i) = Err (suc i)

-- the same place with i elements in front
abbrev pub later : ℕ → Result ℕ ℕ → Result ℕ ℕ
later i (Ok j) = Ok (i + j)
later i (Err j) = Err (i + j)

-- the first element that is not below the key: it has that key, or an element of the key goes before it
unfoldable pub place_of : {A : Type 0} → (A → List ℕ) → List ℕ → List A → Result ℕ ℕ
place_of key k [] = Err zero
place_of key k (x ∷ xs) =
    if lex_less k (key x) then Err zero else
    if lex_less (key x) k then next_place (place_of key k xs) else
    Ok zero

-- a at its place: over the element of its key, or inserted before the one that is there
unfoldable pub upsert_at : {A : Type 0} → Result ℕ ℕ → A → List A → List A
upsert_at (Ok i) a l = replace_at i a l
upsert_at (Err i) a l = insert_at i a l

-- the place of one of n, or one to insert before one of them or last
unfoldable pub PlaceWithin : ℕ → Result ℕ ℕ → Type 0
PlaceWithin n (Ok i) = i < n
PlaceWithin n (Err i) = i ≤ n
