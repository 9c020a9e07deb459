-- Parts that lack the separator are split where they were joined.
use Rattle.std.specs.Prelude.{ℕ, ◌≡◌, true, false, not, eqb}
use Rattle.std.proofs.Math.Path.{refl}
use mathlib.Core.List.{List, [], ◌∷◌, ◌++◌}
use Rattle.std.proofs.Common.{arith, eq-eqb}
use Rattle.spec_lists.proofs.ListLaws.{and_left, and_right, test_cases}
use Rattle.spec_listing.specs.Split.{prepend, split, lacks}

no_separator : (b separator : ℕ) → not (eqb b separator) ≡ true → eqb b separator ≡ false
no_separator b separator e = test_cases (eqb b separator) (λ t. let z : ◌≡◌ {A = ℕ} 0 1 = cc (rw t at e) in absurd (omega arith)) (λ t. t)

module _ (separator : ℕ) where
  pub lacks_append : (a b : List ℕ) → lacks separator a ≡ true → lacks separator b ≡ true → lacks separator (a ++ b) ≡ true
  lacks_append [] b h g = g
  lacks_append (x ∷ a) b h g =
      let first = no_separator x separator (and_left _ (lacks separator a) h) in
      let rest = lacks_append a b (and_right (not (eqb x separator)) _ h) g in
      rw (first, rest)

  pub split_whole : (l : List ℕ) → lacks separator l ≡ true → split separator l ≡ l ∷ []
  unfolding split prepend
  split_whole [] h = refl
  split_whole (b ∷ l) h = rw (no_separator b separator (and_left _ (lacks separator l) h), split_whole l (and_right (not (eqb b separator)) _ h))

  pub split_part : (l rest : List ℕ) → lacks separator l ≡ true → split separator (l ++ separator ∷ rest) ≡ l ∷ split separator rest
  unfolding split prepend
  split_part [] rest h = rw (eq-eqb separator separator refl)
  split_part (b ∷ l) rest h =
      rw (no_separator b separator (and_left _ (lacks separator l) h), split_part l rest (and_right (not (eqb b separator)) _ h))
