-- Printing bytes at a position of a slice: as many of them as there is room for.
use Rattle.std.specs.Prelude.{ℕ, ◌+◌, ◌-◌, ◌≤◌, ◌≡◌, List, ◌∷◌, ◌++◌, leb, length, take, drop, if◌then◌else◌, Option, Some, None}

abbrev pub line_feed : ℕ
line_feed = 10

-- a tab, then the field
abbrev pub spaced_field : List ℕ → List ℕ
spaced_field bs = 9 ∷ bs

-- the slice afterwards: the bytes from the position on, as many as there is room for; nothing where there is no position
unfoldable pub printed : List ℕ → Option ℕ → List ℕ → List ℕ
printed l (Some i) bs = take i l ++ take (length l - i) bs ++ drop (i + length bs) l
printed l None bs = l

-- where printing goes on: behind the bytes, if all of them have room
unfoldable pub printed_behind : List ℕ → Option ℕ → List ℕ → Option ℕ
printed_behind l (Some i) bs = if leb (i + length bs) (length l) then Some (i + length bs) else None
printed_behind l None bs = None

-- printing the bytes at a position turns the slice from before to after, and answers r
pub record Prints (before : List ℕ) (at : Option ℕ) (bs after : List ℕ) (r : Option ℕ) : Type 0 where
  pub answer : r ≡ printed_behind before at bs
  pub output : after ≡ printed before at bs

-- a position that is in the slice or at its end, or none
abbrev pub Within : List ℕ → Option ℕ → Type 0
Within l (Some i) = i ≤ length l
Within l None = Unit {0}
