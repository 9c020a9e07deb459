-- Reading a number gives back what was printed, and takes nothing else.
use Rattle.std.specs.Prelude.{ℕ, ◌/◌, ◌%◌, ◌^◌, ◌≤◌, ◌<◌, ◌≡◌, ◌&&◌, List, [], ◌∷◌, ◌++◌, ltb, length}
use Rattle.std.proofs.Common.{ap, ◌∙◌, arith, ltb-true, lt-ltb}
use Rattle.std.proofs.Math.Option.{some}
use Rattle.spec_lists.proofs.ListLaws.{and_left, and_right, test_cases}
use Rattle.spec_decimal.specs.Decimal.{digit, digits, decimal, is_numeral, number_with, read_decimal}
use Rattle.spec_decimal.proofs.DecimalLaws.{digits_last, digits_more, digits_same, length_digits, length_digits_positive, is_numeral_digits, number_with_digits, numeral_digits}

-- a u64 has at most 20 digits
u64_digits : (n : ℕ) → n < 2 ^ 64 → n < 10 ^ 20
u64_digits n h = omega arith

pub decimal_last : (n : ℕ) → n < 10 → decimal n ≡ digit n ∷ []
unfolding decimal
decimal_last n h = digits_last 19 n h

pub decimal_more : (n : ℕ) → n < 2 ^ 64 → 10 ≤ n → decimal n ≡ decimal (n / 10) ++ (digit (n % 10) ∷ [])
unfolding decimal
decimal_more n h g =
    digits_more 19 n g ∙ ap (λ (l : List ℕ). l ++ (digit (n % 10) ∷ [])) (digits_same 18 19 (n / 10) (omega arith) (omega arith))

-- what is printed reads back
pub read_decimal_decimal : (n : ℕ) → n < 2 ^ 64 → read_decimal (decimal n) ≡ some n
unfolding decimal read_decimal
read_decimal_decimal n h = rw (is_numeral_digits 19 n (u64_digits n h), number_with_digits 20 n (u64_digits n h), lt-ltb n (2 ^ 64) h)

-- whatever is read was printed
pub read_decimal_printed : (bs : List ℕ) (n : ℕ) → read_decimal bs ≡ some n → (bs ≡ decimal n) × (n < 2 ^ 64)
unfolding decimal read_decimal
read_decimal_printed bs n e =
    test_cases (is_numeral bs && ltb (number_with 0 bs) (2 ^ 64))
    (λ t.
    let same : number_with 0 bs ≡ n = cc (rw t at e) in
    let below : number_with 0 bs < 2 ^ 64 = ltb-true _ _ (and_right (is_numeral bs) (ltb (number_with 0 bs) (2 ^ 64)) t) in
    let spelled = numeral_digits bs 19 (and_left (is_numeral bs) (ltb (number_with 0 bs) (2 ^ 64)) t) (u64_digits (number_with 0 bs) below) in
    (spelled ∙ ap (digits 20) same, rw same at below))
    (λ t. let z : ◌≡◌ {A = ℕ} 0 1 = cc (rw t at e) in absurd (omega arith))

pub length_decimal : (n : ℕ) → (1 ≤ length (decimal n)) × (length (decimal n) ≤ 20)
unfolding decimal
length_decimal n = (length_digits_positive 19 n, length_digits 20 n)
