-- A number with its sign, as it is read of a magnitude.
use Prim.Native.Nat.{ℕ, zero, suc, ◌-◌, ◌^◌, ◌≤◌, ◌<◌}
use mathlib.Core.Path.{◌≡◌, refl}
use mathlib.Core.List.{List, [], ◌∷◌}
use mathlib.Core.Option.{none, some}
use native.Mathlib.Omega.{arith}
use borrow.Author.Tests.{lt-ltb, le-ltb, eq-eqb, ne_eqb}
use lib.IntN.{pos, negsuc}
use lib.ListN.{length, get_or, drop}
use lib.Dec.{ltb}
use lib.IntN.{ℤ}
use mathlib.Core.Path.{sym, ap, ◌∙◌}
use mir.Syntax.{w64}
use mir.Val.{to_z, of_z, SFits}
use mir.Facts.{to_z-of_z}
use borrow.Author.Tests.{ltb-true, ltb-false}
use Rattle.std.specs.Prelude as code
use Rattle.std.specs.Result.{OkIff, result_ok}
use Rattle.spec_lists.specs.Options.{optional_of}
use Rattle.spec_lists.proofs.ListLaws.{test_cases}
use Rattle.bytes_wire.proofs.Complement.{flip, flip_pos}
use Rattle.spec_decimal.specs.Decimal.{is_numeral, read_decimal, positive, negative, read_signed_decimal}

-- ---- the sign of a magnitude

pub positive_none : positive none ≡ none
unfolding positive
positive_none = refl

pub negative_none : negative none ≡ none
unfolding negative
negative_none = refl

pub positive_fits : (n : ℕ) → n < 2 ^ 63 → positive (some n) ≡ some (pos n)
unfolding positive
positive_fits n h = rw (lt-ltb n (2 ^ 63) h)

pub positive_exceeds : (n : ℕ) → 2 ^ 63 ≤ n → positive (some n) ≡ none
unfolding positive
positive_exceeds n h = rw (le-ltb n (2 ^ 63) h)

pub negative_zero : (n : ℕ) → n ≡ 0 → negative (some n) ≡ none
unfolding negative
negative_zero n h = rw h

pub negative_fits : (n : ℕ) → 0 < n → n - 1 < 2 ^ 63 → negative (some n) ≡ some (negsuc (n - 1))
unfolding negative
negative_fits zero h g = absurd (omega arith)
negative_fits (suc n) h g =
    let one_less : suc n - 1 ≡ n = omega arith in
    rw (one_less, lt-ltb n (2 ^ 63) (omega arith))

pub negative_exceeds : (n : ℕ) → 0 < n → 2 ^ 63 ≤ n - 1 → negative (some n) ≡ none
unfolding negative
negative_exceeds zero h g = absurd (omega arith)
negative_exceeds (suc n) h g = rw (le-ltb n (2 ^ 63) (omega arith))

-- ---- what the library makes of a magnitude

abbrev pub Tried : {E : Type 0} → ℕ → code.Result ℤ E → Type 0
Tried m r = OkIff r (SFits w64 (pos m)) (pos m)

pub positive_tried : {E : Type 0} (m : ℕ) (r : code.Result ℤ E) → Tried m r → optional_of (result_ok r) ≡ positive (some m)
positive_tried m (code.Ok z) t = ap some t.1 ∙ sym (positive_fits m t.0.sfits)
positive_tried m (code.Err e) t =
    test_cases (ltb m (2 ^ 63)) (λ h. absurd (t (record { sfits = ltb-true m (2 ^ 63) h }))) (λ h. sym (positive_exceeds m (ltb-false m (2 ^ 63) h)))

pub negative_refused : {E : Type 0} (n m : ℕ) → (1 ≤ n) × (m ≡ n - 1) → (r : code.Result ℤ E) → Tried m r → code.None ≡ result_ok r → none ≡ negative (some n)
negative_refused n m less (code.Ok z) t e = cc
negative_refused n m less (code.Err _) t e =
    test_cases (ltb m (2 ^ 63))
    (λ h. absurd (t (record { sfits = ltb-true m (2 ^ 63) h })))
    (λ h. sym (negative_exceeds n (omega (arith, less.0)) (omega (arith, less.1, ltb-false m (2 ^ 63) h))))

-- −1 less the magnitude, as the code computes it
pub negative_tried : {E : Type 0} (n m : ℕ) → (1 ≤ n) × (m ≡ n - 1) → (r : code.Result ℤ E) → Tried m r → (z : ℤ) → code.Some z ≡ result_ok r
    → (SFits w64 (flip (to_z w64 (of_z w64 z)))) × (some (to_z w64 (of_z w64 (flip (to_z w64 (of_z w64 z))))) ≡ negative (some n))
negative_tried n m less (code.Err _) t z e = cc
negative_tried n m less (code.Ok x) t z e =
    let is : z ≡ pos m = cc (e, t.1) in
    let small : m < 2 ^ 63 = t.0.sfits in
    let flipped : flip (to_z w64 (of_z w64 (pos m))) ≡ negsuc m = ap flip (to_z-of_z {w = w64} t.0) ∙ flip_pos m in
    let fits : SFits w64 (negsuc m) = record { sfits = small } in
    let last : m ≡ n - 1 = less.1 in
    rw (is, flipped) (fits, ap some (to_z-of_z {w = w64} fits ∙ ap negsuc last) ∙ sym (negative_fits n (omega (arith, less.0)) (omega (arith, last))))

-- ---- the sign of a text

pub signed_minus : (text : List ℕ) → (length text ≡ 0 → ⊥) → get_or text 0 0 ≡ 45 → read_signed_decimal text ≡ negative (read_decimal (drop 1 text))
unfolding read_signed_decimal
signed_minus [] h e = absurd (h refl)
signed_minus (b ∷ bs) h e = rw (eq-eqb b 45 e)

pub signed_other : (text : List ℕ) → (1 ≤ length text → get_or text 0 0 ≡ 45 → ⊥) → read_signed_decimal text ≡ positive (read_decimal text)
unfolding read_signed_decimal read_decimal is_numeral positive
signed_other [] h = refl
signed_other (b ∷ bs) h = rw (ne_eqb b 45 (h (omega arith)))
