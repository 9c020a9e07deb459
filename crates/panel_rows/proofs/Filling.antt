-- Fields written one behind another fill a row.
use Prim.Native.Nat.{ℕ, ◌+◌, ◌≤◌}
use mathlib.Core.Path.{◌≡◌, ap, ◌∙◌}
use mathlib.Core.List.{List, ◌++◌, append_assoc, append-nil}
use native.Mathlib.Omega.{arith}
use lib.ListN.{length, length-append, drop_of_length-le}
use Rattle.bytes_wire.specs.Write.{overwrite}
use Rattle.bytes_wire.proofs.WriteLaws.{has_room_lem, overwrite_in_place, overwrite_append}

module _ (l : List ℕ) where
  -- bytes over as many others
  filled : (bs : List ℕ) (n : ℕ) → length bs ≡ n → length l ≡ n → overwrite l 0 bs ≡ bs
  filled bs n long same =
      let none : length l ≤ 0 + n = omega arith in
      overwrite_in_place l 0 bs n long (has_room_lem l 0 n (omega arith)) ∙ ap (λ (r : List ℕ). bs ++ r) (drop_of_length-le l none) ∙ append-nil bs

  -- a field behind the first n bytes
  next_field : (front b : List ℕ) (n : ℕ) {one two : List ℕ} → length front ≡ n → n + length b ≤ length l → one ≡ overwrite l 0 front → two ≡ overwrite one n b → two ≡ overwrite l 0 (front ++ b)
  next_field front b n long room e f =
      let start : n ≡ 0 + n = omega arith in
      f ∙ ap (λ (x : List ℕ). overwrite x n b) e ∙ ap (λ (m : ℕ). overwrite (overwrite l 0 front) m b) start ∙ overwrite_append l 0 front b n long (omega arith)

  pub two_fields : (a b : List ℕ) (i j : ℕ) {one two : List ℕ} → length a ≡ i → length b ≡ j → one ≡ overwrite l 0 a → two ≡ overwrite one i b → length l ≡ i + j → two ≡ a ++ b
  two_fields a b i j wide-a wide-b first second size =
      next_field a b i wide-a (omega arith) first second ∙ filled (a ++ b) (i + j) (length-append a b ∙ omega arith) size

  module _ (a b c : List ℕ) (i j k : ℕ) {one two three : List ℕ} (wide-a : length a ≡ i) (wide-b : length b ≡ j) (wide-c : length c ≡ k) (first : one ≡ overwrite l 0 a) (second : two ≡ overwrite one i b) (third : three ≡ overwrite two (i + j) c) where
    front : i + j + k ≤ length l → three ≡ overwrite l 0 ((a ++ b) ++ c)
    front room = next_field (a ++ b) c (i + j) (length-append a b ∙ omega arith) (omega arith) (next_field a b i wide-a (omega arith) first second) third

    pub three_fields : length l ≡ i + j + k → three ≡ a ++ (b ++ c)
    three_fields size = front (omega arith) ∙ filled ((a ++ b) ++ c) (i + j + k) (simp length-append (omega arith)) size ∙ append_assoc a b c

    pub four_fields : (d : List ℕ) (m : ℕ) {four : List ℕ} → length d ≡ m → four ≡ overwrite three (i + j + k) d → length l ≡ i + j + k + m → four ≡ a ++ (b ++ (c ++ d))
    four_fields d m wide-d fourth size =
        next_field ((a ++ b) ++ c) d (i + j + k) (simp length-append (omega arith)) (omega arith) (front (omega arith)) fourth
        ∙ filled (((a ++ b) ++ c) ++ d) (i + j + k + m) (simp length-append (omega arith)) size
        ∙ append_assoc (a ++ b) c d ∙ append_assoc a b (c ++ d)
