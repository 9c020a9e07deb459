-- The examples that RFC 3629 itself gives, computed by the definitions.
use Rattle.std.specs.Prelude.{ℕ, ◌≡◌, refl, true, false, length}
use mathlib.Core.List.{List, [], ◌∷◌, flat_map}
use Rattle.spec_lists.specs.Lists.{All}
use Rattle.spec_text.specs.Scalars.{encode_scalar, encode_scalars}
use Rattle.spec_text.specs.Syntax.{is_utf8, characters}

-- The scalar values have these octets, which are a text of as many characters.
abbrev pub HasOctets : List ℕ → List ℕ → Type 0
HasOctets cs octets = (encode_scalars cs ≡ octets) × (is_utf8 octets ≡ true) × (characters octets ≡ length cs)

-- Section 7: A, not identical to, Alpha and a full stop; Korean; Japanese; and a byte order mark before an ideograph of four octets.
pub section_7 : HasOctets (0x41 ∷ 0x2262 ∷ 0x391 ∷ 0x2e ∷ []) (0x41 ∷ 0xe2 ∷ 0x89 ∷ 0xa2 ∷ 0xce ∷ 0x91 ∷ 0x2e ∷ [])
    × HasOctets (0xd55c ∷ 0xad6d ∷ 0xc5b4 ∷ []) (0xed ∷ 0x95 ∷ 0x9c ∷ 0xea ∷ 0xb5 ∷ 0xad ∷ 0xec ∷ 0x96 ∷ 0xb4 ∷ [])
    × HasOctets (0x65e5 ∷ 0x672c ∷ 0x8a9e ∷ []) (0xe6 ∷ 0x97 ∷ 0xa5 ∷ 0xe6 ∷ 0x9c ∷ 0xac ∷ 0xe8 ∷ 0xaa ∷ 0x9e ∷ [])
    × HasOctets (0xfeff ∷ 0x233b4 ∷ []) (0xef ∷ 0xbb ∷ 0xbf ∷ 0xf0 ∷ 0xa3 ∷ 0x8e ∷ 0xb4 ∷ [])
unfolding encode_scalars flat_map encode_scalar
section_7 = ((refl, refl, refl), (refl, refl, refl), (refl, refl, refl), (refl, refl, refl))

-- Sections 3 and 10: a long form of 0, a surrogate pair, and a long form of a full stop between slashes.
pub malformed : All (λ (text : List ℕ). is_utf8 text ≡ false) ((0xc0 ∷ 0x80 ∷ []) ∷ (0xed ∷ 0xa1 ∷ 0x8c ∷ 0xed ∷ 0xbe ∷ 0xb4 ∷ []) ∷ (0x2f ∷ 0xc0 ∷ 0xae ∷ 0x2e ∷ 0x2f ∷ []) ∷ [])
malformed = (refl, (refl, (refl, tt)))
