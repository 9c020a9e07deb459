-- Without the spaces at its end a padded line is the line again, if it has none itself.
use Rattle.std.specs.Prelude.{ℕ, zero, suc, ◌≡◌, refl, false, eqb, replicate}
use mathlib.Core.List.{List, [], ◌∷◌, ◌++◌}
use Rattle.spec_lists.proofs.ListLaws.{test_cases}
use Rattle.spec_panel_print.specs.Print.{blank, without_end_spaces, ends_in_space}

only_spaces : (n : ℕ) → without_end_spaces (replicate n blank) ≡ []
unfolding without_end_spaces
only_spaces zero = refl
only_spaces (suc n) = rw (only_spaces n)

pub padding_dropped : (l : List ℕ) (n : ℕ) → ends_in_space l ≡ false → without_end_spaces (l ++ replicate n blank) ≡ l
unfolding without_end_spaces ends_in_space
padding_dropped [] n h = only_spaces n
padding_dropped (c ∷ []) n h = rw (h, only_spaces n)
padding_dropped (c ∷ d ∷ l) n h =
    test_cases (eqb c blank)
    (λ t. rw (t, padding_dropped (d ∷ l) n h))
    (λ t. rw (t, padding_dropped (d ∷ l) n h))
