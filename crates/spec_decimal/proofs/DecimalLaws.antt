-- Laws of digits: how many there are, what number they spell, and that a numeral is what is printed of its number.
use Rattle.std.specs.Prelude.{ℕ, zero, suc, ◌+◌, ◌-◌, ◌*◌, ◌/◌, ◌%◌, ◌^◌, ◌≤◌, ◌<◌, ◌≡◌, refl, true, false, not, List, [], ◌∷◌, ◌++◌, ltb, eqb, length}
use Rattle.std.proofs.Common.{sym, ap, ◌∙◌, append_assoc, append-nil, mod-lt, pow-suc, add-zero, arith, lit<, length-append, ltb-true, ltb-false, lt-ltb, le-ltb, ne_eqb}
use Rattle.std.proofs.lemmas.Bool.{eqb-false, not-true}
use Rattle.spec_lists.specs.Lists.{all}
use Rattle.spec_lists.proofs.ListLaws.{and_left, and_right, test_cases}
use Rattle.spec_decimal.specs.Decimal.{digit, digits, is_digit, is_numeral, number_with}
use Rattle.spec_decimal.proofs.DigitLaws.{digit_is_digit, is_digit_range}

-- ---- digits

tenth : (k n : ℕ) → n < 10 ^ suc (suc k) → n / 10 < 10 ^ suc k
tenth k n h = omega (arith, rw pow-suc at h)

shifted : (k n : ℕ) → suc k + n ≡ k + suc n
shifted k n = omega arith

pub digits_last : (k n : ℕ) → n < 10 → digits (suc k) n ≡ digit n ∷ []
unfolding digits
digits_last k n h = rw (lt-ltb n 10 h)

pub digits_more : (k n : ℕ) → 10 ≤ n → digits (suc k) n ≡ digits k (n / 10) ++ (digit (n % 10) ∷ [])
unfolding digits
digits_more k n h = rw (le-ltb n 10 h)

all_digits_append : (a b : List ℕ) → all is_digit a ≡ true → all is_digit b ≡ true → all is_digit (a ++ b) ≡ true
all_digits_append [] b h g = g
all_digits_append (x ∷ a) b h g =
    let first : is_digit x ≡ true = and_left (is_digit x) (all is_digit a) h in
    let rest : all is_digit (a ++ b) ≡ true = all_digits_append a b (and_right (is_digit x) (all is_digit a) h) g in
    rw (first, rest)

one_digit : (d : ℕ) → d < 10 → all is_digit (digit d ∷ []) ≡ true
one_digit d h = rw (digit_is_digit d h)

pub all_digits : (k n : ℕ) → all is_digit (digits k n) ≡ true
unfolding digits
all_digits zero n = refl
all_digits (suc k) n =
    test_cases (ltb n 10)
    (λ t. rw t (one_digit n (ltb-true n 10 t)))
    (λ t. rw t (all_digits_append (digits k (n / 10)) (digit (n % 10) ∷ []) (all_digits k (n / 10)) (one_digit (n % 10) (mod-lt n (lit< tt)))))

-- ---- how many digits

pub length_digits : (k n : ℕ) → length (digits k n) ≤ k
unfolding digits
length_digits zero n = omega arith
length_digits (suc k) n =
    test_cases (ltb n 10)
    (λ t. rw t (omega arith))
    (λ t. rw (t, length-append (digits k (n / 10)) (digit (n % 10) ∷ [])) (omega (arith, length_digits k (n / 10))))

pub length_digits_positive : (k n : ℕ) → 1 ≤ length (digits (suc k) n)
unfolding digits
length_digits_positive k n =
    test_cases (ltb n 10)
    (λ t. rw t (omega arith))
    (λ t. rw (t, length-append (digits k (n / 10)) (digit (n % 10) ∷ [])) (omega arith))

-- where both allow enough digits, how many are allowed does not matter
pub digits_same : (j k n : ℕ) → n < 10 ^ suc j → n < 10 ^ suc k → digits (suc j) n ≡ digits (suc k) n
digits_same zero k n h g =
    let small : n < 10 = omega arith in
    digits_last zero n small ∙ sym (digits_last k n small)
digits_same (suc j) zero n h g =
    let small : n < 10 = omega arith in
    digits_last (suc j) n small ∙ sym (digits_last zero n small)
digits_same (suc j) (suc k) n h g =
    test_cases (ltb n 10)
    (λ t. digits_last (suc j) n (ltb-true n 10 t) ∙ sym (digits_last (suc k) n (ltb-true n 10 t)))
    (λ t. digits_more (suc j) n (ltb-false n 10 t) ∙ ap (λ (l : List ℕ). l ++ (digit (n % 10) ∷ [])) (digits_same j k (n / 10) (tenth j n h) (tenth k n g)) ∙ sym (digits_more (suc k) n (ltb-false n 10 t)))

-- ---- the number of digits that were printed

pub number_with_append : (n : ℕ) (a b : List ℕ) → number_with n (a ++ b) ≡ number_with (number_with n a) b
unfolding number_with
number_with_append n [] b = refl
number_with_append n (x ∷ a) b = number_with_append (10 * n + (x - 48)) a b

pub number_with_digits : (k n : ℕ) → n < 10 ^ k → number_with 0 (digits k n) ≡ n
unfolding digits number_with
number_with_digits zero n h = omega arith
number_with_digits (suc k) n h =
    test_cases (ltb n 10)
    (λ t. rw t (omega arith))
    (λ t. rw (t, number_with_append 0 (digits k (n / 10)) (digit (n % 10) ∷ [])) (omega (arith, number_with_digits k (n / 10) (omega (arith, rw pow-suc at h)))))

-- the digits of a number other than 0 do not begin with 0
abbrev Leads : List ℕ → Type 0
Leads l = (b : ℕ) × (bs : List ℕ) × (l ≡ b ∷ bs) × (eqb b 48 ≡ false)

leads_more : (k n : ℕ) → 10 ≤ n → Leads (digits k (n / 10)) → Leads (digits (suc k) n)
leads_more k n h (b, bs, e, other) =
    (b, bs ++ (digit (n % 10) ∷ []), digits_more k n h ∙ ap (λ (l : List ℕ). l ++ (digit (n % 10) ∷ [])) e, other)

leads : (k n : ℕ) → 0 < n → n < 10 ^ k → Leads (digits k n)
leads zero n h g = absurd (omega arith)
leads (suc k) n h g =
    test_cases (ltb n 10)
    (λ t. (digit n, [], digits_last k n (ltb-true n 10 t), ne_eqb (digit n) 48 (λ e. omega arith)))
    (λ t. leads_more k n (ltb-false n 10 t) (leads k (n / 10) (omega (arith, ltb-false n 10 t)) (omega (arith, rw pow-suc at g))))

numeral_of : (b : ℕ) (bs : List ℕ) → eqb b 48 ≡ false → all is_digit (b ∷ bs) ≡ true → is_numeral (b ∷ bs) ≡ true
unfolding is_numeral
numeral_of b [] e d = d
numeral_of b (x ∷ bs) e d = rw e d

pub is_numeral_digits : (k n : ℕ) → n < 10 ^ suc k → is_numeral (digits (suc k) n) ≡ true
unfolding is_numeral
is_numeral_digits k n h =
    test_cases (ltb n 10)
    (λ t. rw (digits_last k n (ltb-true n 10 t)) (one_digit n (ltb-true n 10 t)))
    (λ t.
    let first = leads (suc k) n (omega (arith, ltb-false n 10 t)) h in
    let d : all is_digit (first.0 ∷ first.1) ≡ true = rw first.2 at (all_digits (suc k) n) in
    rw first.2 (numeral_of first.0 first.1 first.3 d))

-- ---- the digits of a number that was read

-- a digit more after those of a number
digits_then : (k m b : ℕ) → 0 < m → is_digit b ≡ true → digits k m ++ (b ∷ []) ≡ digits (suc k) (10 * m + (b - 48))
digits_then k m b h d =
    let range = is_digit_range b d in
    let high : (10 * m + (b - 48)) / 10 ≡ m = omega arith in
    let low : digit ((10 * m + (b - 48)) % 10) ≡ b = omega arith in
    let whole = digits_more k (10 * m + (b - 48)) (omega arith) in
    sym (whole ∙ rw (high, low))

digits_append : (k m : ℕ) (r : List ℕ) → 0 < m → all is_digit r ≡ true → digits k m ++ r ≡ digits (k + length r) (number_with m r)
unfolding number_with
digits_append k m [] h d = append-nil (digits k m) ∙ ap (λ (j : ℕ). digits j m) (sym (add-zero k))
digits_append k m (b ∷ r) h d =
    let first : is_digit b ≡ true = and_left (is_digit b) (all is_digit r) d in
    sym (append_assoc (digits k m) (b ∷ []) r)
    ∙ ap (λ (l : List ℕ). l ++ r) (digits_then k m b h first)
    ∙ digits_append (suc k) (10 * m + (b - 48)) r (omega arith) (and_right (is_digit b) (all is_digit r) d)
    ∙ ap (λ (j : ℕ). digits j (number_with (10 * m + (b - 48)) r)) (shifted k (length r))

pub number_with_lt : (k m : ℕ) (r : List ℕ) → m < 10 ^ k → all is_digit r ≡ true → number_with m r < 10 ^ (k + length r)
unfolding number_with
number_with_lt k m [] h d = rw add-zero h
number_with_lt k m (b ∷ r) h d =
    let range = is_digit_range b (and_left (is_digit b) (all is_digit r) d) in
    let more : 10 * m + (b - 48) < 10 ^ suc k = rw pow-suc (omega arith) in
    rw (sym (shifted k (length r))) (number_with_lt (suc k) (10 * m + (b - 48)) r more (and_right (is_digit b) (all is_digit r) d))

the_digit : (b : ℕ) → 48 ≤ b → digit (10 * 0 + (b - 48)) ≡ b
the_digit b h = omega arith

-- a numeral is what is printed of its number
pub numeral_digits : (bs : List ℕ) (k : ℕ) → is_numeral bs ≡ true → number_with 0 bs < 10 ^ suc k → bs ≡ digits (suc k) (number_with 0 bs)
unfolding is_numeral number_with
numeral_digits [] k h g = let z : ◌≡◌ {A = ℕ} 0 1 = cc in absurd (omega arith)
numeral_digits (b ∷ []) k h g =
    let range = is_digit_range b (and_left (is_digit b) true h) in
    sym (digits_last k (10 * 0 + (b - 48)) (omega arith) ∙ ap (λ (d : ℕ). d ∷ []) (the_digit b range.0))
numeral_digits (b ∷ c ∷ bs) k h g =
    let d : all is_digit (b ∷ c ∷ bs) ≡ true = and_right (not (eqb b 48)) (all is_digit (b ∷ c ∷ bs)) h in
    let range = is_digit_range b (and_left (is_digit b) (all is_digit (c ∷ bs)) d) in
    let rest : all is_digit (c ∷ bs) ≡ true = and_right (is_digit b) (all is_digit (c ∷ bs)) d in
    let other : eqb b 48 ≡ false = not-true (eqb b 48) (and_left (not (eqb b 48)) (all is_digit (b ∷ c ∷ bs)) h) in
    let first : digits 1 (10 * 0 + (b - 48)) ≡ b ∷ [] = digits_last zero (10 * 0 + (b - 48)) (omega arith) ∙ ap (λ (x : ℕ). x ∷ []) (the_digit b range.0) in
    let below = number_with_lt 1 (10 * 0 + (b - 48)) (c ∷ bs) (omega arith) rest in
    let long : 1 + length (c ∷ bs) ≡ suc (length (c ∷ bs)) = omega arith in
    sym (ap (λ (l : List ℕ). l ++ (c ∷ bs)) first)
    ∙ digits_append 1 (10 * 0 + (b - 48)) (c ∷ bs) (omega (arith, eqb-false b 48 other)) rest
    ∙ ap (λ (j : ℕ). digits j (number_with (10 * 0 + (b - 48)) (c ∷ bs))) long
    ∙ digits_same (length (c ∷ bs)) k (number_with (10 * 0 + (b - 48)) (c ∷ bs)) (rw long at below) g
