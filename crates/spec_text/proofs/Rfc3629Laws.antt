-- RFC 3629 defines UTF-8 twice, and both say the same: the syntax of section 4 takes exactly the encodings of scalar values by section 3,
-- and counts as many characters as there are scalar values.
use Rattle.std.specs.Prelude.{ℕ, suc, ◌≡◌, refl, ◌↔◌, true, length}
use Rattle.std.proofs.Common.{sym, ap, ◌∙◌, one-add}
use mathlib.Core.List.{List, [], ◌∷◌, flat_map}
use Rattle.spec_lists.specs.Lists.{All}
use Rattle.spec_text.specs.Scalars.{Scalar, encode_scalar, encode_scalars, Encoded}
use Rattle.spec_text.specs.Syntax.{is_utf8, characters}
use Rattle.spec_text.proofs.SequenceLaws.{character_first}
use Rattle.spec_text.proofs.ScalarLaws.{octets_match}
use Rattle.spec_text.proofs.SplitLaws.{utf8_encoded}

-- The encoding of scalar values is in the syntax, with one character for each value.
pub encoding_is_utf8 : (cs : List ℕ) → All Scalar cs → (is_utf8 (encode_scalars cs) ≡ true) × (characters (encode_scalars cs) ≡ length cs)
unfolding encode_scalars flat_map
encoding_is_utf8 [] s = (refl, refl)
encoding_is_utf8 (c ∷ cs) s =
    let first = character_first (encode_scalar c) (encode_scalars cs) (octets_match c s.0) in
    let rest = encoding_is_utf8 cs s.1 in
    (first.0 ∙ rest.0, first.1 ∙ one-add _ ∙ ap suc rest.1)

-- A text has as many characters as any scalar values that it is the encoding of.
pub characters_of_encoding : (text : List ℕ) (e : Encoded text) → characters text ≡ length e.scalars
characters_of_encoding text e = ap characters (sym e.is_encoding) ∙ (encoding_is_utf8 e.scalars e.all_scalar).1

-- A text in the syntax is the encoding of as many scalar values as it has characters.
pub utf8_is_encoding : (text : List ℕ) → is_utf8 text ≡ true → (e : Encoded text) × (length e.scalars ≡ characters text)
utf8_is_encoding text u =
    let e : Encoded text = utf8_encoded text u in
    (e, sym (characters_of_encoding text e))

-- A text is UTF-8 of n characters exactly if it is the encoding of n scalar values.
pub utf8_exactly : (text : List ℕ) (n : ℕ) → ((is_utf8 text ≡ true) × (characters text ≡ n)) ↔ ((e : Encoded text) × (length e.scalars ≡ n))
utf8_exactly text n = (means, shows)
  where
    means : (is_utf8 text ≡ true) × (characters text ≡ n) → (e : Encoded text) × (length e.scalars ≡ n)
    means u = let p = utf8_is_encoding text u.0 in (p.0, p.1 ∙ u.1)

    shows : (e : Encoded text) × (length e.scalars ≡ n) → (is_utf8 text ≡ true) × (characters text ≡ n)
    shows p =
        (ap is_utf8 (sym p.0.is_encoding) ∙ (encoding_is_utf8 p.0.scalars p.0.all_scalar).0, characters_of_encoding text p.0 ∙ p.1)
