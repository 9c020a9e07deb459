-- What the rows of a page are while the entries go by: those of a key's equals are written from the last to the first.
use Rattle.std.specs.Prelude.{ℕ, List, ◌++◌, map, eqb, take, drop, if◌then◌else◌}
use Rattle.std.proofs.Math.Option.{some}
use Rattle.spec_projection.specs.Projection.{Entry}
use Rattle.spec_projection.specs.Lookups.{keyed_value, entries_in}
use Rattle.spec_page.specs.Page.{positioned, find_from}
use Rattle.panel_page.specs.PageTable.{answer_row}

-- this row for the key, and the others as they were
unfoldable pub answering : ℕ → List ℕ → (ℕ → List ℕ) → ℕ → List ℕ
answering key row f k = if eqb key k then row else f k

-- the rows by g from key i on, and by f before it
unfoldable pub mixed : (f g : ℕ → List ℕ) → List ℕ → ℕ → List (List ℕ)
mixed f g keys i = map f (take i keys) ++ map g (drop i keys)

-- the row of an entry at a position
abbrev pub page_answer_of : ℕ → Entry → List ℕ
page_answer_of n e = answer_row (some (positioned n (keyed_value e)))

-- the row of each key once these entries went by
unfoldable pub answers_in : ℕ → List Entry → ℕ → List ℕ
answers_in c es k = answer_row (find_from 0 k (entries_in c es))
