-- Decoding is the way back of RFC 3629's encoding.
use Rattle.std.specs.Prelude.{ℕ, ◌+◌, ◌-◌, ◌*◌, ◌/◌, ◌%◌, ◌<◌, ◌≤◌, ◌≡◌, refl, true, ltb, length}
use Rattle.std.proofs.Common.{sym, ap, ◌∙◌, subst, arith, ltb-true, ltb-false, lt-ltb, le-ltb}
use mathlib.Core.List.{List, [], ◌∷◌, ◌++◌, flat_map}
use Rattle.spec_lists.specs.Lists.{All}
use Rattle.spec_lists.proofs.ListLaws.{test_cases}
use Rattle.spec_text.specs.Scalars.{Scalar, encode_scalar, encode_scalars}
use Rattle.spec_text.specs.Syntax.{is_utf8, characters}
use Rattle.spec_text.proofs.Rfc3629Laws.{utf8_is_encoding}
use Rattle.spec_panel_print.specs.Decode.{scalars_from, scalars_of}

-- six bits after six bits
bits : (c : ℕ) → (((0xf0 + c / 0x40000 - 0xf0) * 0x40 + (0x80 + c / 0x1000 % 0x40 - 0x80)) * 0x40 + (0x80 + c / 0x40 % 0x40 - 0x80)) * 0x40 + (0x80 + c % 0x40 - 0x80) ≡ c
bits c =
    let first : (0xf0 + c / 0x40000 - 0xf0) * 0x40 + (0x80 + c / 0x1000 % 0x40 - 0x80) ≡ c / 0x1000 = omega arith in
    let second : c / 0x1000 * 0x40 + (0x80 + c / 0x40 % 0x40 - 0x80) ≡ c / 0x40 = omega arith in
    let third : c / 0x40 * 0x40 + (0x80 + c % 0x40 - 0x80) ≡ c = omega arith in
    rw (first, second, third)

decode_scalar : (c : ℕ) (rest : List ℕ) → c ≤ 0x10ffff → scalars_from 0 0 (encode_scalar c ++ rest) ≡ c ∷ scalars_from 0 0 rest
unfolding scalars_from encode_scalar
decode_scalar c rest h =
    test_cases (ltb c 0x80) (λ t. rw (t, t))
    (λ t₁. test_cases (ltb c 0x800)
    (λ t.
    let small : c < 0x800 = ltb-true c 0x800 t in
    let large : 0x80 ≤ c = ltb-false c 0x80 t₁ in
    rw (t₁, t, le-ltb (0xc0 + c / 0x40) 0x80 (omega arith), lt-ltb (0xc0 + c / 0x40) 0xe0 (omega arith))
    (ap (λ (x : ℕ). x ∷ scalars_from 0 0 rest) (omega arith)))
    (λ t₂. test_cases (ltb c 0x10000)
    (λ t.
    let small : c < 0x10000 = ltb-true c 0x10000 t in
    let large : 0x800 ≤ c = ltb-false c 0x800 t₂ in
    rw (t₁, t₂, t, le-ltb (0xe0 + c / 0x1000) 0x80 (omega arith), le-ltb (0xe0 + c / 0x1000) 0xe0 (omega arith), lt-ltb (0xe0 + c / 0x1000) 0xf0 (omega arith))
    (ap (λ (x : ℕ). x ∷ scalars_from 0 0 rest) (omega arith)))
    (λ t₃.
    let large : 0x10000 ≤ c = ltb-false c 0x10000 t₃ in
    rw (t₁, t₂, t₃, le-ltb (0xf0 + c / 0x40000) 0x80 (omega arith), le-ltb (0xf0 + c / 0x40000) 0xe0 (omega arith), le-ltb (0xf0 + c / 0x40000) 0xf0 (omega arith))
    (ap (λ (x : ℕ). x ∷ scalars_from 0 0 rest) (bits c)))))

-- what is encoded is decoded
pub scalars_of_encode : (cs : List ℕ) → All Scalar cs → scalars_of (encode_scalars cs) ≡ cs
unfolding scalars_of scalars_from encode_scalars flat_map
scalars_of_encode [] s = refl
scalars_of_encode (c ∷ cs) s = decode_scalar c (encode_scalars cs) s.0.0 ∙ ap (λ (l : List ℕ). c ∷ l) (scalars_of_encode cs s.1)

-- a text that is UTF-8 is the encoding of its scalar values, one for each character
pub record Decodes (text : List ℕ) : Type 0 where
  pub all_scalar : All Scalar (scalars_of text)
  pub is_encoding : encode_scalars (scalars_of text) ≡ text
  pub count : length (scalars_of text) ≡ characters text

pub utf8_decodes : (text : List ℕ) → is_utf8 text ≡ true → Decodes text
utf8_decodes text u =
    let p = utf8_is_encoding text u in
    let same : scalars_of text ≡ p.0.scalars = ap scalars_of (sym p.0.is_encoding) ∙ scalars_of_encode p.0.scalars p.0.all_scalar in
    record {
      all_scalar = subst (All Scalar) (sym same) p.0.all_scalar;
      is_encoding = ap encode_scalars same ∙ p.0.is_encoding;
      count = ap length same ∙ p.1;
    }
