-- Where a byte stands, and the first line of a list.
use Rattle.std.specs.Prelude.{ℕ, suc, List, [], ◌∷◌, eqb, take, drop, if◌then◌else◌}
use Rattle.spec_listing.specs.Escapes.{newline}

-- the index of the first such byte, or the length
unfoldable pub byte_place_of : ℕ → List ℕ → ℕ
byte_place_of byte [] = 0
byte_place_of byte (b ∷ bs) = if eqb b byte then 0 else suc (byte_place_of byte bs)

-- the bytes before the first newline
abbrev pub first_term_line : List ℕ → List ℕ
first_term_line bs = take (byte_place_of newline bs) bs

-- the bytes behind it
abbrev pub other_lines : List ℕ → List ℕ
other_lines bs = drop (suc (byte_place_of newline bs)) bs
