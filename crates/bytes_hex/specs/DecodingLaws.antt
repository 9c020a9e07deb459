-- Pairs of digits as the steps read them, and what a caller knows of decoded bytes.
use Rattle.std.specs.Prelude.{ℕ, zero, suc, ◌+◌, ◌*◌, ◌/◌, ◌%◌, ◌≤◌, ◌<◌, ◌≡◌, refl, Bool, true, false, ◌&&◌, List, [], ◌∷◌, leb, eqb, length, get_or, take, if◌then◌else◌, Ok, Err}
use Rattle.std.proofs.Common.{sym, ap, ◌∙◌, arith, le-leb, leb-true}
use Rattle.std.proofs.Math.Option.{Option, none, some}
use Rattle.spec_lists.specs.Lists.{all, equal_lists}
use Rattle.spec_lists.proofs.ListLaws.{test_cases}
use Rattle.spec_decimal.specs.Decimal.{is_digit}
use Rattle.spec_replay.specs.Hex.{hex_digit, hex_byte, cons, hex_pairs, read_hex}
use Rattle.bytes_wire.specs.Write.{has_room, overwrite}
use Rattle.bytes_wire.proofs.WriteLaws.{has_room_lem, take_overwrite}
use Rattle.bytes_hex.specs.declared.HexRefusal.TheVariants.{NoRoom}
use Rattle.bytes_hex.specs.Decoding.{is_hex_digit, hex_value, is_pairs, pair_bytes, decoding, decoded_into}

pub digit_some : (b : ℕ) → is_hex_digit b ≡ true → hex_digit b ≡ some (hex_value b)
unfolding is_hex_digit hex_value hex_digit
digit_some b h = test_cases (is_digit b) (λ d. rw d) (λ d. rw (d, rw d at h))

pub digit_none : (b : ℕ) → is_hex_digit b ≡ false → hex_digit b ≡ none
unfolding is_hex_digit hex_digit
digit_none b h = test_cases (is_digit b) (λ d. let z : ◌≡◌ {A = ℕ} 0 1 = cc (rw d at h) in absurd (omega arith)) (λ d. rw (d, rw d at h))

-- what pairs spell, by a test and the bytes
pub hex_pairs_is : (text : List ℕ) → hex_pairs text ≡ (if is_pairs text then some (pair_bytes text) else none)
unfolding hex_pairs is_pairs pair_bytes hex_byte cons
hex_pairs_is [] = refl
hex_pairs_is (h ∷ []) = refl
hex_pairs_is (h ∷ l ∷ rest) =
    let even : suc (suc (length rest)) % 2 ≡ length rest % 2 = omega arith in
    test_cases (is_hex_digit h)
    (λ p.
    test_cases (is_hex_digit l)
    (λ q. rw (digit_some h p, digit_some l q, p, q, even, hex_pairs_is rest) (by_test (eqb (length rest % 2) 0 && all is_hex_digit rest) (16 * hex_value h + hex_value l) (pair_bytes rest)))
    (λ q. rw (digit_some h p, digit_none l q, p, q) (none_else (eqb (suc (suc (length rest)) % 2) 0) _)))
    (λ p. rw (digit_none h p, p) (none_else (eqb (suc (suc (length rest)) % 2) 0) _))
  where
    by_test : (t : Bool) (b : ℕ) (bs : List ℕ) → cons (some b) (if t then some bs else none) ≡ (if t then some (b ∷ bs) else none)
    by_test true b bs = refl
    by_test false b bs = refl

    none_else : (t : Bool) (bs : List ℕ) → none ≡ (if t && false then some bs else none)
    none_else true bs = refl
    none_else false bs = refl

pub length_pair_bytes : (text : List ℕ) → length (pair_bytes text) ≡ length text / 2
unfolding pair_bytes
length_pair_bytes [] = refl
length_pair_bytes (h ∷ []) = refl
length_pair_bytes (h ∷ l ∷ rest) = omega (arith, length_pair_bytes rest)

pub pair_bytes_at : (text : List ℕ) (i : ℕ) → 2 * i + 1 < length text → get_or (pair_bytes text) i 0 ≡ 16 * hex_value (get_or text (2 * i) 0) + hex_value (get_or text (2 * i + 1) 0)
unfolding pair_bytes
pair_bytes_at [] i h = absurd (omega arith)
pair_bytes_at (x ∷ []) i h = absurd (omega arith)
pair_bytes_at (x ∷ y ∷ rest) zero h = refl
pair_bytes_at (x ∷ y ∷ rest) (suc i) h =
    let first : 2 * suc i ≡ suc (suc (2 * i)) = omega arith in
    let second : suc (suc (2 * i)) + 1 ≡ suc (suc (2 * i + 1)) = omega arith in
    rw (first, second) (pair_bytes_at rest i (omega arith))

-- ---- callers

-- where so many bytes were decoded, they are what the text spells
pub decoded_part : (out : List ℕ) (x : Option (List ℕ)) (n : ℕ) → decoding (length out) x ≡ Ok n → x ≡ some (take n (decoded_into out x))
unfolding decoding decoded_into
decoded_part out none n e = cc
decoded_part out (some bs) n e =
    test_cases (leb (length bs) (length out))
    (λ t.
    let same : length bs ≡ n = cc (rw t at e) in
    let room : has_room out 0 n ≡ true = has_room_lem out 0 n (omega (arith, leb-true (length bs) (length out) t)) in
    let whole : 0 + n ≡ n = omega arith in
    ap some (sym (take_overwrite out 0 bs n same room) ∙ ap (λ (k : ℕ). take k (overwrite out 0 bs)) whole))
    (λ t. cc (rw t at e))

pairs_length : (text bs : List ℕ) → hex_pairs text ≡ some bs → 2 * length bs ≤ length text
pairs_length text bs e =
    test_cases (is_pairs text)
    (λ t.
    let spelled : some (pair_bytes text) ≡ some bs = rw t at (sym (hex_pairs_is text) ∙ e) in
    let same : pair_bytes text ≡ bs = cc in
    omega (arith, length_pair_bytes text, ap length same))
    (λ t.
    let spelled : none ≡ some bs = rw t at (sym (hex_pairs_is text) ∙ e) in
    let z : ◌≡◌ {A = ℕ} 0 1 = cc in
    absurd (omega arith))

-- a text is at least twice as long as its bytes
pub decoded_length : (text bs : List ℕ) → read_hex text ≡ some bs → 2 * length bs ≤ length text
unfolding read_hex
decoded_length [] bs e = absurd (let z : ◌≡◌ {A = ℕ} 0 1 = cc in omega arith)
decoded_length (b ∷ text) bs e =
    test_cases (equal_lists eqb (b ∷ text) (45 ∷ []))
    (λ t. let same : [] ≡ bs = cc (rw t at e) in omega (arith, ap length same))
    (λ t. pairs_length (b ∷ text) bs (rw t at e))

-- with room for half of a text there is always room
pub always_room : (text : List ℕ) (room : ℕ) → length text ≤ 2 * room → decoding room (read_hex text) ≡ Err NoRoom → ⊥
unfolding decoding
always_room text room h = by_reading (read_hex text) refl
  where
    by_reading : (x : Option (List ℕ)) → read_hex text ≡ x → decoding room x ≡ Err NoRoom → ⊥
    by_reading none e n = let z : ◌≡◌ {A = ℕ} 0 1 = cc in omega arith
    by_reading (some bs) e n =
        let room-left : length bs ≤ room = omega (arith, decoded_length text bs e) in
        let z : ◌≡◌ {A = ℕ} 0 1 = cc (rw (le-leb (length bs) room room-left) at n) in
        omega arith
