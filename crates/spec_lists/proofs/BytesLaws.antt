-- `little_endian` and `number_of` undo each other, once for every width; and parts of bytes are bytes.
use Rattle.std.specs.Prelude.{ℕ, zero, suc, ◌+◌, ◌*◌, ◌/◌, ◌%◌, ◌^◌, ◌≤◌, ◌<◌, ◌≡◌, refl, true, List, [], ◌∷◌, ◌++◌, length, get_or, take, drop, leb}
use Rattle.std.proofs.Common.{ap, pow-suc, arith, lit<, leb-true}
use Rattle.spec_lists.specs.Lists.{all}
use Rattle.spec_lists.proofs.ListLaws.{and_left, and_right, all_right}
use Rattle.spec_lists.specs.Bytes.{Bytes, little_endian, number_of}

-- ---- bytes

pub bytes_of : (l : List ℕ) → ((i : ℕ) → get_or l i 0 < 256) → Bytes l
bytes_of [] h = tt
bytes_of (b ∷ bs) h = (h zero, bytes_of bs (λ i. h (suc i)))

-- by a computed test
pub bytes_if : (l : List ℕ) → all (λ (b : ℕ). leb b 255) l ≡ true → Bytes l
bytes_if [] e = tt
bytes_if (b ∷ l) e =
    let byte : b ≤ 255 = leb-true b 255 (and_left (leb b 255) _ e) in
    (omega arith, bytes_if l (and_right (leb b 255) _ e))

pub bytes_take : (n : ℕ) (l : List ℕ) → Bytes l → Bytes (take n l)
bytes_take zero l h = tt
bytes_take (suc n) [] h = tt
bytes_take (suc n) (b ∷ bs) h = (h.0, bytes_take n bs h.1)

pub bytes_drop : (n : ℕ) (l : List ℕ) → Bytes l → Bytes (drop n l)
bytes_drop zero l h = h
bytes_drop (suc n) [] h = tt
bytes_drop (suc n) (b ∷ bs) h = bytes_drop n bs h.1

pub bytes_right : (a b : List ℕ) → Bytes (a ++ b) → Bytes b
bytes_right a b h = all_right (λ (x : ℕ). x < 256) a b h

-- ---- the bytes of a number

pub length_little_endian : (n x : ℕ) → length (little_endian n x) ≡ n
unfolding little_endian
length_little_endian zero x = refl
length_little_endian (suc n) x = ap suc (length_little_endian n (x / 256))

-- ---- the number of bytes

pub number_of_lt : (k : ℕ) (bs : List ℕ) → Bytes bs → length bs ≤ k → number_of bs < 256 ^ k
unfolding number_of
number_of_lt zero [] h l = lit< tt
number_of_lt zero (b ∷ bs) h l = omega arith
number_of_lt (suc k) [] h l = rw pow-suc (omega (arith, number_of_lt k [] tt (omega arith)))
number_of_lt (suc k) (b ∷ bs) h l = rw pow-suc (omega (arith, number_of_lt k bs h.1 (omega arith)))

-- ---- each undoes the other

pub number_of_little_endian : (n x : ℕ) → x < 256 ^ n → number_of (little_endian n x) ≡ x
unfolding little_endian number_of
number_of_little_endian zero x h = omega arith
number_of_little_endian (suc n) x h =
    let below : x / 256 < 256 ^ n = omega (arith, rw pow-suc at h) in
    omega (arith, number_of_little_endian n (x / 256) below)

pub little_endian_number_of : (bs : List ℕ) → Bytes bs → little_endian (length bs) (number_of bs) ≡ bs
unfolding little_endian number_of
little_endian_number_of [] h = refl
little_endian_number_of (b ∷ bs) h =
    let low : (b + 256 * number_of bs) % 256 ≡ b = omega arith in
    let high : (b + 256 * number_of bs) / 256 ≡ number_of bs = omega arith in
    rw (low, high) (ap (λ (l : List ℕ). b ∷ l) (little_endian_number_of bs h.1))

-- ---- the number of two runs of bytes

pub number_of_append : (a b : List ℕ) → number_of (a ++ b) ≡ number_of a + number_of b * 256 ^ length a
unfolding number_of
number_of_append [] b = omega arith
number_of_append (x ∷ a) b = rw pow-suc (omega (arith, number_of_append a b))
