-- Reading a signed number gives back what was printed, and takes nothing else.
use Rattle.std.specs.Prelude.{ℕ, zero, suc, ◌^◌, ◌≤◌, ◌<◌, ◌≡◌, refl, true, List, [], ◌∷◌, ltb, eqb, ℤ, pos, negsuc, length}
use Rattle.std.proofs.Common.{sym, ap, ◌∙◌, arith, SFits, ltb-true, lt-ltb, eqb-true, ne_eqb}
use Rattle.std.proofs.Math.Option.{Option, none, some}
use Rattle.std.specs.Int.{w64}
use Rattle.spec_lists.specs.Lists.{all}
use Rattle.spec_lists.proofs.ListLaws.{and_left, test_cases}
use Rattle.spec_decimal.specs.Decimal.{digits, decimal, signed_decimal, is_digit, read_decimal, positive, negative, read_signed_decimal}
use Rattle.spec_decimal.proofs.DecimalLaws.{digits_same, length_digits, length_digits_positive, all_digits}
use Rattle.spec_decimal.proofs.DigitLaws.{is_digit_range}
use Rattle.spec_decimal.proofs.ReadLaws.{read_decimal_decimal, read_decimal_printed, length_decimal}

-- digits do not begin with the minus sign
digits_unsigned : (l : List ℕ) → 1 ≤ length l → all is_digit l ≡ true → read_signed_decimal l ≡ positive (read_decimal l)
unfolding read_signed_decimal
digits_unsigned [] h d = absurd (omega arith)
digits_unsigned (b ∷ bs) h d =
    let range = is_digit_range b (and_left (is_digit b) (all is_digit bs) d) in
    rw (ne_eqb b 45 (λ e. omega arith))

unsigned_decimal : (n : ℕ) → read_signed_decimal (decimal n) ≡ positive (read_decimal (decimal n))
unfolding decimal
unsigned_decimal n = digits_unsigned (digits 20 n) (length_digits_positive 19 n) (all_digits 20 n)

-- what is printed reads back
pub read_signed_decimal_signed_decimal : (z : ℤ) → SFits w64 z → read_signed_decimal (signed_decimal z) ≡ some z
unfolding signed_decimal positive negative read_signed_decimal
read_signed_decimal_signed_decimal (pos n) h =
    let small : n < 2 ^ 63 = h.sfits in
    unsigned_decimal n ∙ ap positive (read_decimal_decimal n (omega arith)) ∙ rw (lt-ltb n (2 ^ 63) small)
read_signed_decimal_signed_decimal (negsuc n) h =
    let small : n < 2 ^ 63 = h.sfits in
    ap negative (read_decimal_decimal (suc n) (omega arith)) ∙ rw (lt-ltb n (2 ^ 63) small)

positive_some : (bs : List ℕ) (z : ℤ) → positive (read_decimal bs) ≡ some z → (bs ≡ signed_decimal z) × SFits w64 z
unfolding positive signed_decimal
positive_some bs z = go (read_decimal bs) refl
  where
    go : (o : Option ℕ) → read_decimal bs ≡ o → positive o ≡ some z → (bs ≡ signed_decimal z) × SFits w64 z
    go none r e = let y : ◌≡◌ {A = ℕ} 0 1 = cc in absurd (omega arith)
    go (some n) r e =
        test_cases (ltb n (2 ^ 63))
        (λ t.
        let same : pos n ≡ z = cc (rw t at e) in
        rw (sym same) ((read_decimal_printed bs n r).0, record { sfits = ltb-true n (2 ^ 63) t }))
        (λ t. let y : ◌≡◌ {A = ℕ} 0 1 = cc (rw t at e) in absurd (omega arith))

negative_some : (bs : List ℕ) (z : ℤ) → negative (read_decimal bs) ≡ some z → (45 ∷ bs ≡ signed_decimal z) × SFits w64 z
unfolding negative signed_decimal
negative_some bs z = go (read_decimal bs) refl
  where
    go : (o : Option ℕ) → read_decimal bs ≡ o → negative o ≡ some z → (45 ∷ bs ≡ signed_decimal z) × SFits w64 z
    go none r e = let y : ◌≡◌ {A = ℕ} 0 1 = cc in absurd (omega arith)
    go (some zero) r e = let y : ◌≡◌ {A = ℕ} 0 1 = cc in absurd (omega arith)
    go (some (suc n)) r e =
        test_cases (ltb n (2 ^ 63))
        (λ t.
        let same : negsuc n ≡ z = cc (rw t at e) in
        rw (sym same) (ap (λ (l : List ℕ). 45 ∷ l) (read_decimal_printed bs (suc n) r).0, record { sfits = ltb-true n (2 ^ 63) t }))
        (λ t. let y : ◌≡◌ {A = ℕ} 0 1 = cc (rw t at e) in absurd (omega arith))

-- whatever is read was printed
pub read_signed_decimal_printed : (bs : List ℕ) (z : ℤ) → read_signed_decimal bs ≡ some z → (bs ≡ signed_decimal z) × SFits w64 z
unfolding read_signed_decimal
read_signed_decimal_printed [] z e = let y : ◌≡◌ {A = ℕ} 0 1 = cc in absurd (omega arith)
read_signed_decimal_printed (b ∷ bs) z e =
    test_cases (eqb b 45)
    (λ t.
    let r = negative_some bs z (rw t at e) in
    (ap (λ (x : ℕ). x ∷ bs) (eqb-true b 45 t) ∙ r.0, r.1))
    (λ t. positive_some (b ∷ bs) z (rw t at e))

-- two numbers that are printed alike are equal
pub signed_decimal_injective : (x y : ℤ) → SFits w64 x → SFits w64 y → signed_decimal x ≡ signed_decimal y → x ≡ y
signed_decimal_injective x y h g e =
    same_some (sym (read_signed_decimal_signed_decimal x h) ∙ ap read_signed_decimal e ∙ read_signed_decimal_signed_decimal y g)
  where
    same_some : some x ≡ some y → x ≡ y
    same_some p = cc

pub length_signed_decimal : (z : ℤ) → SFits w64 z → (1 ≤ length (signed_decimal z)) × (length (signed_decimal z) ≤ 20)
unfolding signed_decimal decimal
length_signed_decimal (pos n) h = length_decimal n
length_signed_decimal (negsuc n) h =
    let small : n < 2 ^ 63 = h.sfits in
    let nineteen : digits 20 (suc n) ≡ digits 19 (suc n) = digits_same 19 18 (suc n) (omega arith) (omega arith) in
    (omega arith, rw nineteen (omega (arith, length_digits 19 (suc n))))
