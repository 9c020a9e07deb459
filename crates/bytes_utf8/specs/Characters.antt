-- The character that a text begins with, rows of bytes below 0x80, and how far a text was read.
use Rattle.std.specs.Prelude.{ℕ, zero, suc, ◌+◌, ◌*◌, ◌≤◌, ◌<◌, ◌≡◌, Bool, true, false, ◌&&◌, List, [], ◌∷◌, length, get_or, drop, Option, Some, None, if◌then◌else◌}
use Rattle.std.specs.Int.Bits.{bit_and}
use Rattle.spec_text.specs.Syntax.{Range, inside, sequences, After, expects, refused, lead, is_utf8, characters}

-- The octets begin with one in each of the ranges.
unfoldable pub matches : List Range → List ℕ → Bool
matches [] bs = true
matches (r ∷ rs) [] = false
matches (r ∷ rs) (b ∷ bs) = inside r b && matches rs bs

-- The length of a character whose first octet leads to this, by the octets that follow it: 0 if they are not the ones allowed.
unfoldable pub length_after : After → List ℕ → ℕ
length_after (expects rs) bs = if matches rs bs then suc (length rs) else 0
length_after refused bs = 0

-- The length of the character that a text begins with, or 0.
unfoldable pub character_length : List ℕ → ℕ
character_length [] = 0
character_length (b ∷ bs) = length_after (lead sequences b) bs

-- A length, if it is not 0.
abbrev pub if_any : ℕ → Option ℕ
if_any zero = None
if_any (suc n) = Some (suc n)

-- The bytes from one position to another are below 0x80.
pub record AsciiBetween (text : List ℕ) (from to : ℕ) : Type 0 where
  pub ascends : from ≤ to
  pub within : to ≤ length text
  pub ascii : (k : ℕ) → from ≤ k → k < to → get_or text k 0 < 0x80

-- The highest bits of n bytes as a number.
abbrev pub high_bits : ℕ → ℕ
high_bits zero = 0
high_bits (suc n) = high_bits n * 256 + 0x80

-- A number tells by its highest bits whether n bytes are below 0x80.
abbrev pub TellsAscii : List ℕ → ℕ → ℕ → ℕ → Type 0
TellsAscii text at n x = bit_and x (high_bits n) ≡ 0 → AsciiBetween text at (at + n)

-- The bytes from a position on decide the text, and have the characters that are not counted yet.
pub record Reached (text : List ℕ) (count at : ℕ) : Type 0 where
  pub within : at ≤ length text
  pub few : count ≤ at
  pub same_utf8 : is_utf8 (drop at text) ≡ is_utf8 text
  pub same_count : count + characters (drop at text) ≡ characters text
