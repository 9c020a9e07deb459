-- ASCII characters are their own octets, and all of a line but a text is ASCII.
use Rattle.std.specs.Prelude.{ℕ, zero, suc, ◌-◌, ◌<◌, ◌≡◌, refl, true, ℤ, pos, negsuc, length, replicate}
use Rattle.std.proofs.Common.{ap, ◌∙◌, arith, lt-ltb}
use mathlib.Core.List.{List, [], ◌∷◌, ◌++◌, flat_map}
use Rattle.spec_lists.specs.Lists.{All, all}
use Rattle.spec_lists.proofs.ListLaws.{and_left, and_right, flat_map_append, all_append}
use Rattle.spec_text.specs.Scalars.{encode_scalar, encode_scalars}
use Rattle.spec_patch.specs.Patch.{Quad, N, F, T, S}
use Rattle.spec_decimal.specs.Decimal.{digits, decimal, signed_decimal, is_digit}
use Rattle.spec_decimal.proofs.DecimalLaws.{all_digits}
use Rattle.spec_decimal.proofs.DigitLaws.{is_digit_range}
use Rattle.spec_panel_print.specs.Print.{key_width, lead_width, blank, quad_letter, key_lead}
use Rattle.spec_panel_print.proofs.PrintLaws.{key_lead_length}

unfoldable pub Ascii : ℕ → Type 0
Ascii c = c < 0x80

pub encode_append : (a b : List ℕ) → encode_scalars (a ++ b) ≡ encode_scalars a ++ encode_scalars b
unfolding encode_scalars
encode_append a b = flat_map_append encode_scalar a b

pub ascii_encode : (l : List ℕ) → All Ascii l → encode_scalars l ≡ l
unfolding encode_scalars flat_map encode_scalar Ascii
ascii_encode [] h = refl
ascii_encode (c ∷ l) h = rw (lt-ltb c 0x80 h.0, ascii_encode l h.1)

pub spaces_ascii : (n : ℕ) → All Ascii (replicate n blank)
unfolding Ascii
spaces_ascii zero = tt
spaces_ascii (suc n) = (omega arith, spaces_ascii n)

pub digits_ascii : (l : List ℕ) → all is_digit l ≡ true → All Ascii l
unfolding Ascii
digits_ascii [] d = tt
digits_ascii (b ∷ l) d =
    let range = is_digit_range b (and_left (is_digit b) (all is_digit l) d) in
    (omega arith, digits_ascii l (and_right (is_digit b) (all is_digit l) d))

pub decimal_ascii : (n : ℕ) → All Ascii (decimal n)
unfolding decimal
decimal_ascii n = digits_ascii (digits 20 n) (all_digits 20 n)

pub signed_ascii : (z : ℤ) → All Ascii (signed_decimal z)
unfolding signed_decimal Ascii
signed_ascii (pos n) = decimal_ascii n
signed_ascii (negsuc n) = (omega arith, decimal_ascii (suc n))

pub letter_ascii : (q : Quad) → Ascii (quad_letter q)
unfolding quad_letter Ascii
letter_ascii N = omega arith
letter_ascii F = omega arith
letter_ascii T = omega arith
letter_ascii S = omega arith

pub key_lead_ascii : (k : ℕ) → All Ascii (key_lead k)
unfolding key_lead Ascii
key_lead_ascii k =
    let blanks = replicate (key_width - length (decimal k)) blank in
    all_append Ascii (blanks ++ decimal k) (blank ∷ blank ∷ []) (all_append Ascii blanks (decimal k) (spaces_ascii (key_width - length (decimal k))) (decimal_ascii k))
    (omega arith, (omega arith, tt))

pub key_lead_octets : (k : ℕ) → length (encode_scalars (key_lead k)) ≡ lead_width
key_lead_octets k = ap length (ascii_encode (key_lead k) (key_lead_ascii k)) ∙ key_lead_length k
