-- What one byte of a text prints as, by the tests of the code.
use Prim.Native.Nat.{ℕ}
use mathlib.Core.Path.{◌≡◌}
use mathlib.Core.List.{[], ◌∷◌}
use borrow.Author.Tests.{eq-eqb, ne_eqb}
use Rattle.spec_listing.specs.Escapes.{tab, newline, carriage_return, backslash, escaped_byte}

module _ (b : ℕ) where
  pub a_backslash : b ≡ backslash → backslash ∷ 92 ∷ [] ≡ escaped_byte b
  unfolding escaped_byte
  a_backslash e = rw (eq-eqb b backslash e)

  pub a_tab : (b ≡ backslash → ⊥) → b ≡ tab → backslash ∷ 116 ∷ [] ≡ escaped_byte b
  unfolding escaped_byte
  a_tab n e = rw (ne_eqb b backslash n, eq-eqb b tab e)

  pub a_newline : (b ≡ backslash → ⊥) → (b ≡ tab → ⊥) → b ≡ newline → backslash ∷ 110 ∷ [] ≡ escaped_byte b
  unfolding escaped_byte
  a_newline n m e = rw (ne_eqb b backslash n, ne_eqb b tab m, eq-eqb b newline e)

  pub a_return : (b ≡ backslash → ⊥) → (b ≡ tab → ⊥) → (b ≡ newline → ⊥) → b ≡ carriage_return → backslash ∷ 114 ∷ [] ≡ escaped_byte b
  unfolding escaped_byte
  a_return n m k e = rw (ne_eqb b backslash n, ne_eqb b tab m, ne_eqb b newline k, eq-eqb b carriage_return e)

  pub as_it_is : (b ≡ backslash → ⊥) → (b ≡ tab → ⊥) → (b ≡ newline → ⊥) → (b ≡ carriage_return → ⊥) → b ∷ [] ≡ escaped_byte b
  unfolding escaped_byte
  as_it_is n m k j = rw (ne_eqb b backslash n, ne_eqb b tab m, ne_eqb b newline k, ne_eqb b carriage_return j)
