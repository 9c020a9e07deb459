-- Bytes in lower-case hex.
use Rattle.std.specs.Prelude.{ℕ, ◌+◌, ◌-◌, ◌*◌, ◌/◌, ◌%◌, ltb, eqb, if◌then◌else◌}
use mathlib.Core.List.{List, [], ◌∷◌, flat_map}
use Rattle.std.proofs.Math.Option.{Option, none, some}
use Rattle.spec_lists.specs.Lists.{between, equal_lists}
use Rattle.spec_decimal.specs.Decimal.{is_digit}
unfoldable pub use Rattle.spec_listing.specs.Split.{cons}

-- 0 to 9 are the characters 48 to 57, a to f are 97 to 102
unfoldable pub hex_digit : ℕ → Option ℕ
hex_digit b = if is_digit b then some (b - 48) else if between 97 102 b then some (b - 87) else none

-- the byte of two digits
unfoldable pub hex_byte : Option ℕ → Option ℕ → Option ℕ
hex_byte none low = none
hex_byte (some h) none = none
hex_byte (some h) (some l) = some (16 * h + l)

-- pairs of digits
unfoldable pub hex_pairs : List ℕ → Option (List ℕ)
hex_pairs [] = some []
hex_pairs (h ∷ []) = none
hex_pairs (h ∷ l ∷ rest) = cons (hex_byte (hex_digit h) (hex_digit l)) (hex_pairs rest)

-- the character - alone spells the empty set; the empty field is no hex
unfoldable pub read_hex : List ℕ → Option (List ℕ)
read_hex [] = none
read_hex (b ∷ bs) = if equal_lists eqb (b ∷ bs) (45 ∷ []) then some [] else hex_pairs (b ∷ bs)

-- ---- printed

-- the character of a digit from 0 to 15
unfoldable pub hex_character : ℕ → ℕ
hex_character d = if ltb d 10 then 48 + d else 87 + d

-- two characters, the higher digit first
unfoldable pub byte_pair : ℕ → List ℕ
byte_pair b = hex_character (b / 16) ∷ hex_character (b % 16) ∷ []

-- the pairs of all bytes, or the character - for no bytes
unfoldable pub hex_field : List ℕ → List ℕ
hex_field [] = 45 ∷ []
hex_field (b ∷ bs) = flat_map byte_pair (b ∷ bs)
