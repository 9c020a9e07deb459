-- What the places of an answer table stand for while a page is filled: one whose first byte is 0 for a row of zeros.
use Rattle.std.specs.Prelude.{ℕ, ◌≡◌, Bool, List, map, eqb, length, get_or, set, if◌then◌else◌}
use Rattle.bytes_records.specs.Moves.{zeros}
use Rattle.bytes_records.specs.Table.{HoldsRows}
use Rattle.panel_page.specs.PageTable.{page_width}

-- the place with its first byte 0
abbrev pub emptied : List ℕ → List ℕ
emptied row = set row 0 0

-- the row that a place stands for
unfoldable pub shown : List ℕ → List ℕ
shown row = if eqb (get_or row 0 0) 0 then zeros (length row) else row

-- what a pass over the places makes of each: emptied before the entries go by, and the row that it stands for at the end
abbrev pub place_after : Bool → List ℕ → List ℕ
place_after ending row = if ending then shown row else emptied row

-- the places of a table of so many stand for these rows
pub record Shows (n : ℕ) (table : List ℕ) (rows : List (List ℕ)) : Type 0 where
  pub places : List (List ℕ)
  pub held : HoldsRows page_width n table places
  pub stand : map shown places ≡ rows
