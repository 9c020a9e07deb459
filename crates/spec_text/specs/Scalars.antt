-- RFC 3629, section 3: the encoding of scalar values. An octet is a number, and a text a list of octets.
use Rattle.std.specs.Prelude.{ℕ, ◌+◌, ◌/◌, ◌%◌, ◌≤◌, ◌≡◌, ltb, if◌then◌else◌}
use mathlib.Core.List.{List, [], ◌∷◌, flat_map}
use Rattle.spec_lists.specs.Lists.{All}

-- A scalar value is at most 0x10ffff, and no surrogate.
abbrev pub Scalar : ℕ → Type 0
Scalar c = (c ≤ 0x10ffff) × (0xd800 ≤ c → c ≤ 0xdfff → ⊥)

-- The octets of a scalar value: the table of section 3. A division by 0x40 takes off the last six bits.
unfoldable pub encode_scalar : ℕ → List ℕ
encode_scalar c =
    if ltb c 0x80 then c ∷ [] else
    if ltb c 0x800 then (0xc0 + c / 0x40) ∷ (0x80 + c % 0x40) ∷ [] else
    if ltb c 0x10000 then (0xe0 + c / 0x1000) ∷ (0x80 + c / 0x40 % 0x40) ∷ (0x80 + c % 0x40) ∷ [] else
    (0xf0 + c / 0x40000) ∷ (0x80 + c / 0x1000 % 0x40) ∷ (0x80 + c / 0x40 % 0x40) ∷ (0x80 + c % 0x40) ∷ []

-- The octets of one scalar value after the other.
unfoldable pub encode_scalars : List ℕ → List ℕ
encode_scalars = flat_map encode_scalar

-- A text that is the encoding of some scalar values.
pub record Encoded (text : List ℕ) : Type 0 where
  pub scalars : List ℕ
  pub all_scalar : All Scalar scalars
  pub is_encoding : encode_scalars scalars ≡ text
