-- What decoding answers and writes, and the steps of decoding.
use Rattle.std.specs.Prelude.{ℕ, ◌+◌, ◌-◌, ◌*◌, ◌%◌, Bool, ◌&&◌, ◌||◌, List, [], ◌∷◌, leb, eqb, length, if◌then◌else◌, Result, Ok, Err}
use Rattle.std.proofs.Math.Option.{Option, none, some}
use Rattle.spec_lists.specs.Lists.{between, all}
use Rattle.spec_decimal.specs.Decimal.{is_digit}
use Rattle.bytes_wire.specs.Write.{overwrite}
use Rattle.bytes_hex.specs.declared.HexRefusal.{HexRefusal}
use Rattle.bytes_hex.specs.declared.HexRefusal.TheVariants.{Malformed, NoRoom}

-- ---- the steps

unfoldable pub is_hex_digit : ℕ → Bool
is_hex_digit b = is_digit b || between 97 102 b

-- the value of a digit, and 0 of any other byte
unfoldable pub hex_value : ℕ → ℕ
hex_value b = if is_digit b then b - 48 else if between 97 102 b then b - 87 else 0

-- digits only, and an even number of them
unfoldable pub is_pairs : List ℕ → Bool
is_pairs text = eqb (length text % 2) 0 && all is_hex_digit text

-- the byte of each two digits
unfoldable pub pair_bytes : List ℕ → List ℕ
pair_bytes [] = []
pair_bytes (h ∷ []) = []
pair_bytes (h ∷ l ∷ rest) = (16 * hex_value h + hex_value l) ∷ pair_bytes rest

-- ---- the answer

-- of what a text spells, with so much room
unfoldable pub decoding : ℕ → Option (List ℕ) → Result ℕ HexRefusal
decoding room none = Err Malformed
decoding room (some bs) = if leb (length bs) room then Ok (length bs) else Err NoRoom

-- the lent bytes after the call: those that were decoded from the start on, then what stood there; unchanged where there is no room
unfoldable pub decoded_into : List ℕ → Option (List ℕ) → List ℕ
decoded_into out none = out
decoded_into out (some bs) = overwrite out 0 bs
