-- What printing a set that a call wrote comes to.
use Rattle.std.specs.Prelude.{ℕ, ◌≡◌, List, [], ◌∷◌, ◌++◌, length, Option}
use Rattle.spec_decimal.specs.Decimal.{decimal}
use Rattle.spec_listing.specs.Listing.{fields}
use Rattle.spec_replay.specs.Hex.{hex_field}
use Rattle.bytes_printer.specs.Prints.{Prints}

-- the letter of the call, 0, and in hex the set that stands at the start of what was written
abbrev pub PrintsSet : (letter len : ℕ) (written out : List ℕ) → Option ℕ → List ℕ → Option ℕ → Type 0
PrintsSet letter len written out at after r = (set behind : List ℕ) → len ≡ length set → written ≡ set ++ behind → Prints out at (letter ∷ fields (decimal 0 ∷ hex_field set ∷ [])) after r
