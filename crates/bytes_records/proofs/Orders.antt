-- How the two numbers that a row begins with stand to two others, by the tests that `compare` makes.
use mathlib.Core.Path.{◌≡◌, sym, ap, ◌∙◌}
use mathlib.Core.List.{List, [], ◌∷◌}
use Prim.Native.Nat.{ℕ, ◌+◌, ◌-◌, ◌≤◌, ◌<◌}
use native.Mathlib.Omega.{arith}
use lib.ListN.{take, drop}
use borrow.Author.Tests.{lt-ltb, le-ltb, eq-eqb, ne_eqb}
use Rattle.spec_lists.specs.Bytes.{number_of}
use Rattle.spec_lists.specs.Order.{lex_less}
use Rattle.bytes_records.specs.Keys.{leading_numbers, order_of}
use Rattle.std.specs.declared.cmp.Ordering.{Ordering}
use Rattle.std.specs.declared.cmp.Ordering.TheVariants.{Less, Equal, Greater}

-- ---- two pairs of numbers

module _ (a b x y : ℕ) where
  abbrev order : Ordering
  order = order_of (a ∷ b ∷ []) (x ∷ y ∷ [])

  first_below : a < x → Less ≡ order
  unfolding order_of lex_less
  first_below h = rw (le-ltb x a (omega arith), ne_eqb x a (λ (e : x ≡ a). omega arith), lt-ltb a x h)

  first_above : x < a → Greater ≡ order
  unfolding order_of lex_less
  first_above h = rw (lt-ltb x a h)

  second_below : a ≡ x → b < y → Less ≡ order
  unfolding order_of lex_less
  second_below e h =
      rw (le-ltb x a (omega arith), le-ltb a x (omega arith), eq-eqb a x e, eq-eqb x a (sym e), le-ltb y b (omega arith), ne_eqb y b (λ (e : y ≡ b). omega arith), lt-ltb b y h)

  second_above : a ≡ x → y < b → Greater ≡ order
  unfolding order_of lex_less
  second_above e h = rw (le-ltb x a (omega arith), eq-eqb x a (sym e), lt-ltb y b h)

  both_same : a ≡ x → b ≡ y → Equal ≡ order
  unfolding order_of lex_less
  both_same e h =
      rw (le-ltb x a (omega arith), le-ltb a x (omega arith), eq-eqb a x e, eq-eqb x a (sym e), le-ltb y b (omega arith), le-ltb b y (omega arith), eq-eqb y b (sym h), eq-eqb b y h)

-- ---- the numbers of a row

module _ (row : List ℕ) (size own id second : ℕ) (first : own ≡ number_of (take 8 row)) where
  leading : leading_numbers (8 ∷ size ∷ []) row ≡ own ∷ number_of (take size (drop 8 row)) ∷ []
  unfolding leading_numbers
  leading = rw first

  pub row_below : own < id → Less ≡ order_of (leading_numbers (8 ∷ size ∷ []) row) (id ∷ second ∷ [])
  row_below h = rw leading (first_below own _ id second h)

  pub row_above : id < own → Greater ≡ order_of (leading_numbers (8 ∷ size ∷ []) row) (id ∷ second ∷ [])
  row_above h = rw leading (first_above own _ id second h)

  -- where the first numbers are the same, the second decide
  module _ (behind : ℕ) (next : behind ≡ number_of (take (8 + size - 8) (drop 8 row))) (above : id ≤ own) (below : own ≤ id) where
    same : own ≡ id
    same = omega arith

    pair : leading_numbers (8 ∷ size ∷ []) row ≡ own ∷ behind ∷ []
    pair =
        let n : 8 + size - 8 ≡ size = omega arith in
        leading ∙ ap (λ (b : ℕ). own ∷ b ∷ []) (sym (next ∙ ap (λ (k : ℕ). number_of (take k (drop 8 row))) n))

    pub row_below_second : behind < second → Less ≡ order_of (leading_numbers (8 ∷ size ∷ []) row) (id ∷ second ∷ [])
    row_below_second h = rw pair (second_below own behind id second same h)

    pub row_above_second : second < behind → Greater ≡ order_of (leading_numbers (8 ∷ size ∷ []) row) (id ∷ second ∷ [])
    row_above_second h = rw pair (second_above own behind id second same h)

    pub row_same : second ≤ behind → behind ≤ second → Equal ≡ order_of (leading_numbers (8 ∷ size ∷ []) row) (id ∷ second ∷ [])
    row_same h k = rw pair (both_same own behind id second same (omega arith))
