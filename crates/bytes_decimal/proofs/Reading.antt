-- The steps of reading: one digit more, the end of the digits, and a byte that is no digit or too much.
use Prim.Native.Nat.{ℕ, suc, ◌+◌, ◌-◌, ◌*◌, ◌^◌, ◌≤◌, ◌<◌}
use mathlib.Core.Path.{◌≡◌, refl, sym, ap, ◌∙◌}
use mathlib.Core.Bool.{◌&&◌}
use mathlib.Core.List.{List, [], ◌∷◌}
use mathlib.Core.Option.{none, some}
use native.Mathlib.Numerals.{add-one}
use native.Mathlib.Omega.{arith}
use lib.Dec.{ltb, leb}
use lib.ListN.{length, get_or, drop, drop_of_length-le}
use lib.Seq.{drop-cons}
use borrow.Author.Tests.{ltb-true, ltb-false, lt-ltb, le-ltb, le-leb, lt-leb, eq-eqb, ne_eqb}
use Rattle.std.specs.Prelude as code
use Rattle.std.specs.Prelude.{SomeIff}
use Rattle.spec_lists.specs.Options.{optional_of}
use Rattle.spec_lists.specs.Lists.{all}
use Rattle.spec_lists.proofs.ListLaws.{and_left, and_right, test_cases}
use Rattle.spec_decimal.specs.Decimal.{is_digit, is_numeral, number_with, read_decimal}
use Rattle.bytes_decimal.specs.Read.{with_digit, read_digits}

-- ---- one digit

pub below_digits : (n b : ℕ) → b < 48 → with_digit n b ≡ none
unfolding with_digit
below_digits n b h = rw (lt-leb 48 b h)

pub above_digits : (n b : ℕ) → 57 < b → with_digit n b ≡ none
unfolding with_digit
above_digits n b h = test_cases (leb 48 b) (λ t. rw (t, lt-leb b 57 h)) (λ t. rw t)

pub digit_fits : (n b : ℕ) → 48 ≤ b → b ≤ 57 → 10 * n + (b - 48) < 2 ^ 64 → with_digit n b ≡ some (10 * n + (b - 48))
unfolding with_digit
digit_fits n b h g s = rw (le-leb 48 b h, le-leb b 57 g, lt-ltb (10 * n + (b - 48)) (2 ^ 64) s)

pub digit_exceeds : (n b : ℕ) → 48 ≤ b → b ≤ 57 → 2 ^ 64 ≤ 10 * n + (b - 48) → with_digit n b ≡ none
unfolding with_digit
digit_exceeds n b h g s = rw (le-leb 48 b h, le-leb b 57 g, le-ltb (10 * n + (b - 48)) (2 ^ 64) s)

-- the digit added to ten times the number
pub digit_added : (n b : ℕ) → 48 ≤ b → b ≤ 57 → {m d : ℕ} → m ≡ n * 10 → d ≡ b - 48 → (r : code.Option ℕ) → SomeIff r (m + d < 2 ^ 64) (m + d) → optional_of r ≡ with_digit n b
digit_added n b h g {m} {d} tens unit (code.Some x) e =
    let sum : x ≡ 10 * n + (b - 48) = omega (arith, e.1) in
    ap some sum ∙ sym (digit_fits n b h g (omega (arith, e.0)))
digit_added n b h g {m} {d} tens unit code.None e = sym (digit_exceeds n b h g (omega (arith, e)))

-- ---- further digits

-- further digits make a number no smaller
grows : (n : ℕ) (bs : List ℕ) → n ≤ number_with n bs
unfolding number_with
grows n [] = omega arith
grows n (b ∷ bs) = omega (arith, grows (10 * n + (b - 48)) bs)

pub digits_on : (n m b : ℕ) (bs : List ℕ) → some m ≡ with_digit n b → (read_digits n (b ∷ bs) ≡ read_digits m bs) × (m < 2 ^ 64)
unfolding with_digit read_digits number_with
digits_on n m b bs e =
    test_cases (is_digit b && ltb (10 * n + (b - 48)) (2 ^ 64))
    (λ t.
    let same : m ≡ 10 * n + (b - 48) = cc (rw t at e) in
    let small : 10 * n + (b - 48) < 2 ^ 64 = ltb-true _ _ (and_right (is_digit b) (ltb (10 * n + (b - 48)) (2 ^ 64)) t) in
    (rw (and_left (is_digit b) (ltb (10 * n + (b - 48)) (2 ^ 64)) t, same), omega arith))
    (λ t. let z : ◌≡◌ {A = ℕ} 0 1 = cc (rw t at e) in absurd (omega arith))

pub digits_off : (n b : ℕ) (bs : List ℕ) → none ≡ with_digit n b → read_digits n (b ∷ bs) ≡ none
unfolding with_digit read_digits number_with
digits_off n b bs e =
    test_cases (is_digit b)
    (λ d.
    test_cases (ltb (10 * n + (b - 48)) (2 ^ 64))
    (λ s. let z : ◌≡◌ {A = ℕ} 0 1 = cc (rw (d, s) at e) in absurd (omega arith))
    (λ s.
    let large : 2 ^ 64 ≤ number_with (10 * n + (b - 48)) bs = omega (arith, ltb-false (10 * n + (b - 48)) (2 ^ 64) s, grows (10 * n + (b - 48)) bs) in
    test_cases (all is_digit bs) (λ t. rw (d, t, le-ltb (number_with (10 * n + (b - 48)) bs) (2 ^ 64) large)) (λ t. rw (d, t))))
    (λ d. rw d)

module _ (text : List ℕ) (i : ℕ) (n : ℕ) where
  pub next_digit : (m : ℕ) → i < length text → some m ≡ with_digit n (get_or text i 0) → (read_digits m (drop (i + 1) text) ≡ read_digits n (drop i text)) × (m < 2 ^ 64)
  next_digit m h e =
      let on = digits_on n m (get_or text i 0) (drop (suc i) text) e in
      (rw (add-one i, drop-cons text i 0 h) (sym on.0), on.1)

  pub no_digit : i < length text → none ≡ with_digit n (get_or text i 0) → read_digits n (drop i text) ≡ none
  no_digit h e = rw (drop-cons text i 0 h) (digits_off n (get_or text i 0) (drop (suc i) text) e)

  pub last_digit : length text ≤ i → n < 2 ^ 64 → read_digits n (drop i text) ≡ some n
  unfolding read_digits number_with
  last_digit h s = rw (drop_of_length-le text h, lt-ltb n (2 ^ 64) s)

-- ---- a numeral

pub none_empty : (bs : List ℕ) → length bs < 1 → read_decimal bs ≡ none
unfolding read_decimal is_numeral
none_empty [] h = refl
none_empty (b ∷ bs) h = absurd (omega arith)

pub leading_zero : (bs : List ℕ) → 1 < length bs → get_or bs 0 0 ≡ 48 → read_decimal bs ≡ none
unfolding read_decimal is_numeral
leading_zero [] h e = absurd (omega arith)
leading_zero (b ∷ []) h e = absurd (omega arith)
leading_zero (b ∷ c ∷ bs) h e = rw (eq-eqb b 48 e)

-- the digits of a numeral are read as they stand
pub one_digit : (bs : List ℕ) → length bs ≡ 1 → read_digits 0 bs ≡ read_decimal bs
unfolding read_decimal read_digits is_numeral
one_digit [] h = absurd (omega arith)
one_digit (b ∷ []) h = refl
one_digit (b ∷ c ∷ bs) h = absurd (omega arith)

pub no_zero_leads : (bs : List ℕ) → 1 ≤ length bs → (get_or bs 0 0 ≡ 48 → ⊥) → read_digits 0 bs ≡ read_decimal bs
unfolding read_decimal read_digits is_numeral
no_zero_leads [] h g = absurd (omega arith)
no_zero_leads (b ∷ []) h g = refl
no_zero_leads (b ∷ c ∷ bs) h g = rw (ne_eqb b 48 g)
