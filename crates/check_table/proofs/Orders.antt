-- How two keys stand to each other, by their first numbers.
use mathlib.Core.Path.{◌≡◌, refl, ◌∙◌}
use mathlib.Core.List.{List, [], ◌∷◌}
use Prim.Native.Nat.{ℕ, ◌≤◌, ◌<◌}
use native.Mathlib.Omega.{arith}
use borrow.Author.Tests.{lt-ltb, le-ltb, eq-eqb, ne_eqb}
use Rattle.spec_lists.specs.Order.{lex_less}
use Rattle.bytes_records.specs.Keys.{order_of}
use Rattle.std.specs.declared.cmp.Ordering.TheVariants.{Less, Equal, Greater}

module _ (x y : ℕ) (xs ys : List ℕ) where
  pub order_below : x < y → Less ≡ order_of (x ∷ xs) (y ∷ ys)
  unfolding order_of lex_less
  order_below h = rw (le-ltb y x (omega arith), ne_eqb y x (λ (e : y ≡ x). omega arith), lt-ltb x y h)

  pub order_above : y < x → Greater ≡ order_of (x ∷ xs) (y ∷ ys)
  unfolding order_of lex_less
  order_above h = rw (lt-ltb y x h)

  -- where they are equal, the other numbers decide
  pub order_equal : x ≤ y → y ≤ x → order_of xs ys ≡ order_of (x ∷ xs) (y ∷ ys)
  unfolding order_of lex_less
  order_equal h k = rw (le-ltb y x (omega arith), le-ltb x y (omega arith), eq-eqb x y (omega arith), eq-eqb y x (omega arith))

pub order_same : Equal ≡ order_of [] []
unfolding order_of lex_less
order_same = refl

-- keys of three numbers, by the tests that `compare` makes
module _ (a b c x y z : ℕ) where
  module _ (h : x ≤ a) (k : a ≤ x) where
    pub second_below : b < y → Less ≡ order_of (a ∷ b ∷ c ∷ []) (x ∷ y ∷ z ∷ [])
    second_below l = order_below b y (c ∷ []) (z ∷ []) l ∙ order_equal a x (b ∷ c ∷ []) (y ∷ z ∷ []) k h

    pub second_above : y < b → Greater ≡ order_of (a ∷ b ∷ c ∷ []) (x ∷ y ∷ z ∷ [])
    second_above l = order_above b y (c ∷ []) (z ∷ []) l ∙ order_equal a x (b ∷ c ∷ []) (y ∷ z ∷ []) k h

    module _ (l : y ≤ b) (m : b ≤ y) where
      seconds : order_of (c ∷ []) (z ∷ []) ≡ order_of (a ∷ b ∷ c ∷ []) (x ∷ y ∷ z ∷ [])
      seconds = order_equal b y (c ∷ []) (z ∷ []) m l ∙ order_equal a x (b ∷ c ∷ []) (y ∷ z ∷ []) k h

      pub third_below : c < z → Less ≡ order_of (a ∷ b ∷ c ∷ []) (x ∷ y ∷ z ∷ [])
      third_below n = order_below c z [] [] n ∙ seconds

      pub third_above : z < c → Greater ≡ order_of (a ∷ b ∷ c ∷ []) (x ∷ y ∷ z ∷ [])
      third_above n = order_above c z [] [] n ∙ seconds

      pub all_same : z ≤ c → c ≤ z → Equal ≡ order_of (a ∷ b ∷ c ∷ []) (x ∷ y ∷ z ∷ [])
      all_same n o = order_same ∙ order_equal c z [] [] o n ∙ seconds
