-- The digits of a number, stored from the last to the first.
use Prim.Native.Nat.{ℕ, zero, suc, ◌+◌, ◌-◌, ◌/◌, ◌%◌, ◌^◌, ◌≤◌, ◌<◌}
use mathlib.Core.Path.{◌≡◌, refl, sym, ap, ◌∙◌}
use mathlib.Core.List.{List, [], ◌∷◌, ◌++◌, append_assoc, append-nil}
use native.Mathlib.Omega.{arith}
use lib.ListN.{length, set, replicate, length-append, length-replicate}
use lib.Seq.{set_at}
use Rattle.spec_decimal.specs.Decimal.{digit, decimal}
use Rattle.spec_decimal.proofs.ReadLaws.{decimal_last, decimal_more, length_decimal}
use Rattle.bytes_decimal.specs.Print.{most_digits}

-- the digits of rest are those of n that are not stored: zeros stand up to index start, and the last digits of n behind it
pub record StoredDigits (n start rest : ℕ) (bytes : List ℕ) : Type 0 where
  pub small : rest < 2 ^ 64
  pub last : List ℕ
  pub digits : decimal rest ++ last ≡ decimal n
  pub held : bytes ≡ replicate (suc start) 0 ++ last
  pub size : suc start + length last ≡ most_digits

zeros_snoc : (k : ℕ) (bs : List ℕ) → replicate (suc k) 0 ++ bs ≡ replicate k 0 ++ (0 ∷ bs)
zeros_snoc zero bs = refl
zeros_snoc (suc k) bs = ap (λ (l : List ℕ). 0 ∷ l) (zeros_snoc k bs)

-- a digit in place of the last zero
put : (k d : ℕ) (bs : List ℕ) → set (replicate (suc k) 0 ++ bs) k d ≡ replicate k 0 ++ (d ∷ bs)
put k d bs = ap (λ (l : List ℕ). set l k d) (zeros_snoc k bs) ∙ set_at (replicate k 0) 0 bs d k (length-replicate k 0)

pub stored_start : (n : ℕ) → n < 2 ^ 64 → StoredDigits n (most_digits - 1) n (replicate most_digits 0)
stored_start n h = record { small = h; last = []; digits = append-nil (decimal n); held = refl; size = refl }

module _ {n start rest : ℕ} {bytes : List ℕ} (s : StoredDigits n start rest bytes) where
  -- there is a place for each digit that is left
  pub digit_left : 10 ≤ rest → 1 ≤ start
  digit_left h =
      let more : length (decimal rest) ≡ length (decimal (rest / 10)) + 1 = ap length (decimal_more rest s.small h) ∙ length-append (decimal (rest / 10)) _ in
      let all : length (decimal rest) + length s.last ≡ length (decimal n) = sym (length-append (decimal rest) s.last) ∙ ap length s.digits in
      omega (arith, (length_decimal n).1, (length_decimal (rest / 10)).0, s.size)

  pub start_inside : start < most_digits
  start_inside = omega (arith, s.size)

  pub stored_turn : 10 ≤ rest → StoredDigits n (start - 1) (rest / 10) (set bytes start (digit (rest % 10)))
  stored_turn h =
      let place : suc (start - 1) ≡ start = omega (arith, digit_left h) in
      record {
        small = omega (arith, s.small);
        last = digit (rest % 10) ∷ s.last;
        digits = sym (append_assoc (decimal (rest / 10)) (digit (rest % 10) ∷ []) s.last) ∙ ap (λ (l : List ℕ). l ++ s.last) (sym (decimal_more rest s.small h)) ∙ s.digits;
        held = ap (λ (l : List ℕ). set l start (digit (rest % 10))) s.held ∙ put start (digit (rest % 10)) s.last ∙ ap (λ (k : ℕ). replicate k 0 ++ (digit (rest % 10) ∷ s.last)) (sym place);
        size = omega (arith, s.size, place);
      }

  pub stored_end : rest < 10 → (set bytes start (digit rest) ≡ replicate start 0 ++ decimal n) × (start + length (decimal n) ≡ most_digits)
  stored_end h =
      let all : digit rest ∷ s.last ≡ decimal n = ap (λ (l : List ℕ). l ++ s.last) (sym (decimal_last rest h)) ∙ s.digits in (
        ap (λ (l : List ℕ). set l start (digit rest)) s.held ∙ put start (digit rest) s.last ∙ ap (λ (l : List ℕ). replicate start 0 ++ l) all,
        omega (arith, s.size, ap length all),
      )
