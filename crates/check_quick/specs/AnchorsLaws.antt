-- Absent targets, counted target by target and patch by patch.
use Rattle.std.specs.Prelude.{ℕ, ◌+◌, ◌/◌, ◌≤◌, ◌<◌, ◌≡◌, Bool, true, false, eqb, length, drop, get_or, if◌then◌else◌}
use Rattle.std.proofs.Math.Path.{refl, ap}
use Rattle.std.proofs.Common.{◌∙◌}
use mathlib.Core.List.{List, [], ◌∷◌, ◌++◌, flat_map}
use native.Mathlib.Omega.{arith}
use Rattle.spec_lists.proofs.ListLaws.{test_cases}
use Rattle.spec_patch.specs.Patch.{Operation}
use Rattle.spec_checks.specs.Target.{MutationTarget, mutation_target}
use Rattle.active_projection_target_catalog.specs.Catalog.{pair_seen}
use Rattle.check_targets.specs.Targets.{made_of, target_numbers}
use Rattle.check_targets.specs.Threes.{three_at}
use Rattle.check_quick.specs.Anchors.{anchored, absent_one, absent_among, absent_of}

module _ (known : MutationTarget → Bool) where
  pub one_at_most : (t : MutationTarget) → absent_one known t ≤ 1
  one_at_most t = test_cases (known t) (λ e. rw e (omega arith)) (λ e. rw e (omega arith))

  -- ---- operations

  pub absent_of_append : (os us : List Operation) → absent_of known (os ++ us) ≡ absent_of known os + absent_of known us
  unfolding absent_among target_numbers flat_map
  absent_of_append [] us = omega arith
  absent_of_append (o ∷ os) us = let rest = absent_of_append os us in omega (arith, rest)

  pub absent_few : (os : List Operation) → absent_of known os ≤ length os
  unfolding absent_among target_numbers flat_map
  absent_few [] = omega arith
  absent_few (o ∷ os) = let rest = absent_few os in omega (arith, rest, one_at_most (mutation_target o))

  -- ---- turns of the count

  pub absent_turn : (ns : List ℕ) (at : ℕ) → at + 3 ≤ length ns → absent_among known (drop at ns) ≡ absent_one known (made_of (get_or ns at 0) (get_or ns (at + 1) 0) (get_or ns (at + 2) 0)) + absent_among known (drop (at + 3) ns)
  unfolding absent_among
  absent_turn ns at h = ap (absent_among known) (three_at ns at h)

  -- fewer than three numbers are no target
  pub absent_end : (ns : List ℕ) → length ns < 3 → absent_among known ns ≡ 0
  unfolding absent_among
  absent_end [] h = refl
  absent_end (k ∷ []) h = refl
  absent_end (k ∷ f ∷ []) h = refl
  absent_end (k ∷ f ∷ s ∷ ns) h = absurd (omega arith)

-- where nothing is lent, every target is absent
pub all_absent : (nodes bindings collections : List ℕ) → length nodes + length bindings + length collections ≡ 0 → (ns : List ℕ) → length ns / 3 ≡ absent_among (anchored nodes bindings collections) ns
unfolding absent_among anchored pair_seen
all_absent [] [] [] z [] = omega arith
all_absent [] [] [] z (k ∷ []) = omega arith
all_absent [] [] [] z (k ∷ f ∷ []) = omega arith
all_absent [] [] [] z (k ∷ f ∷ s ∷ ns) =
    let one : absent_one (anchored [] [] []) (made_of k f s) ≡ 1 = test_cases (eqb k 1) (λ e. rw e) (λ e. test_cases (eqb k 2) (λ d. rw (e, d)) (λ d. rw (e, d))) in
    let rest = all_absent [] [] [] z ns in
    omega (arith, one, rest)
all_absent [] [] (c ∷ cs) z ns = absurd (omega arith)
all_absent [] (b ∷ bs) cs z ns = absurd (omega arith)
all_absent (n ∷ nodes) bs cs z ns = absurd (omega arith)
