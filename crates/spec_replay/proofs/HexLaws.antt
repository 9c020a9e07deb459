-- What is printed in hex is read back.
use Rattle.std.specs.Prelude.{ℕ, ◌+◌, ◌-◌, ◌*◌, ◌/◌, ◌%◌, ◌≤◌, ◌<◌, ◌≡◌, refl, ltb, eqb}
use Rattle.std.proofs.Common.{ap, arith, ltb-true, ltb-false, le-leb}
use mathlib.Core.List.{List, [], ◌∷◌, flat_map}
use Rattle.std.proofs.Math.Option.{some}
use Rattle.std.proofs.lemmas.Bool.{lt-leb}
use Rattle.spec_lists.proofs.ListLaws.{test_cases}
use Rattle.spec_lists.specs.Bytes.{Bytes}
use Rattle.spec_replay.specs.Hex.{hex_digit, hex_byte, cons, hex_pairs, read_hex, hex_character, byte_pair, hex_field}

digit_back : (d : ℕ) → d < 16 → hex_digit (hex_character d) ≡ some d
unfolding hex_digit hex_character
digit_back d h = test_cases (ltb d 10) (λ t. rw t (figure (ltb-true d 10 t))) (λ t. rw t (letter (ltb-false d 10 t)))
  where
    figure : d < 10 → hex_digit (48 + d) ≡ some d
    figure k =
        let same : 48 + d - 48 ≡ d = omega arith in
        rw (le-leb 48 (48 + d) (omega arith), le-leb (48 + d) 57 (omega arith), same)

    letter : 10 ≤ d → hex_digit (87 + d) ≡ some d
    letter k =
        let same : 87 + d - 87 ≡ d = omega arith in
        rw (le-leb 48 (87 + d) (omega arith), lt-leb (87 + d) 57 (omega arith), le-leb 97 (87 + d) (omega arith), le-leb (87 + d) 102 (omega arith), same)

pairs_back : (bs : List ℕ) → Bytes bs → hex_pairs (flat_map byte_pair bs) ≡ some bs
unfolding flat_map byte_pair hex_pairs hex_byte cons
pairs_back [] h = refl
pairs_back (b ∷ bs) h =
    let whole : 16 * (b / 16) + b % 16 ≡ b = omega arith in
    rw (digit_back (b / 16) (omega (arith, h.0)), digit_back (b % 16) (omega arith), pairs_back bs h.1) (ap (λ (n : ℕ). some (n ∷ bs)) whole)

-- every list of bytes is read back from its field
pub hex_back : (bs : List ℕ) → Bytes bs → read_hex (hex_field bs) ≡ some bs
unfolding flat_map byte_pair read_hex hex_field
hex_back [] h = refl
hex_back (b ∷ bs) h = test_cases (eqb (hex_character (b / 16)) 45) (λ t. rw t (pairs_back (b ∷ bs) h)) (λ t. rw t (pairs_back (b ∷ bs) h))
