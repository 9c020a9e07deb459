-- The steps of the test for pairs of digits.
use Prim.Native.Nat.{ℕ, ◌%◌}
use mathlib.Core.Path.{◌≡◌, refl, ap}
use mathlib.Core.Bool.{Bool, false, ◌&&◌}
use mathlib.Core.List.{List, [], ◌∷◌}
use native.Mathlib.Omega.{arith}
use lib.ListN.{length}
use borrow.Author.Tests.{eq-eqb, ne_eqb}
use Rattle.std.specs.List.{list_all}
use Rattle.spec_lists.specs.Lists.{all}
use Rattle.bytes_hex.specs.Decoding.{is_hex_digit, is_pairs}

-- what the library calls all
pub all_is : (test : ℕ → Bool) (l : List ℕ) → list_all test l ≡ all test l
all_is test [] = refl
all_is test (x ∷ xs) = ap (λ (b : Bool). test x && b) (all_is test xs)

module _ (text : List ℕ) where
  pub odd_pairs : length text % 2 ≡ 1 → is_pairs text ≡ false
  unfolding is_pairs
  odd_pairs h = rw (ne_eqb (length text % 2) 0 (λ e. omega arith))

  pub even_pairs : (length text % 2 ≡ 1 → ⊥) → all is_hex_digit text ≡ is_pairs text
  unfolding is_pairs
  even_pairs h =
      let even : length text % 2 ≡ 0 = omega arith in
      rw (eq-eqb (length text % 2) 0 even)
