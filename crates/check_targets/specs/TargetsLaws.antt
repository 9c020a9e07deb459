-- The scan over the numbers of earlier operations says what kind 3 asks of them.
use Rattle.std.specs.Prelude.{Bool, drop, eqb, false, get_or, length, refl, set, suc, take, true, zero, ℕ, ◌&&◌, ◌+◌, ◌-◌, ◌/◌, ◌<◌, ◌||◌, ◌↔◌, ◌≡◌, ◌≤◌}
use Rattle.std.specs.List.{list_any}
use Rattle.std.specs.Simd.{first_chunks}
use Rattle.std.proofs.Common.{sym, ap, ap₂, eq-eqb, ne_eqb, eqb-true, ◌∙◌, arith, length-append, length-take, length-drop, take_at}
use mathlib.Core.List.{List, [], ◌∷◌, ◌++◌, Memᴰ, append_assoc, flat_map, reverse}
use Rattle.spec_lists.specs.Lists.{any}
use Rattle.std.proofs.lemmas.Bool.{eqb-false}
use Rattle.spec_lists.proofs.ListLaws.{flat_map_append, test_cases, any_reverse, any_member, member_any}
use Rattle.spec_patch.specs.Patch.{Operation}
use Rattle.spec_checks.specs.Target.{MutationTarget, mutation_target, same_target}
use Rattle.spec_checks.proofs.RulesLaws.{same_target_true, true_same_target}
use Rattle.std.proofs.Math.Bool.{and_comm, and_assoc}
use Rattle.check_targets.specs.Threes.{three_at}
use Rattle.check_targets.specs.Targets.{tells_target, equal_targets, numbers_of, target_numbers, target_seen, with_target}

eqb_turned : (m n : ℕ) → eqb m n ≡ eqb n m
eqb_turned m n = test_cases (eqb m n) (λ e. e ∙ sym (eq-eqb n m (sym (eqb-true m n e)))) (λ e. e ∙ sym (ne_eqb n m (λ h. eqb-false m n e (sym h))))

tells_equal : (t : MutationTarget) (k f s : ℕ) → tells_target t (k ∷ f ∷ s ∷ []) ≡ equal_targets t (record { kind = k; first = f; second = s })
unfolding equal_targets
tells_equal t k f s =
    rw (eqb_turned s t.second, eqb_turned f t.first, eqb_turned k t.kind) (turned (eqb t.kind k) (eqb t.first f) (eqb t.second s))
  where
    turned : (a b c : Bool) → (c && (b && a)) ≡ (a && (b && c))
    turned a b c = ap (λ x. c && x) (and_comm b a) ∙ and_comm c (a && b) ∙ and_assoc a b c

-- the triples of numbers that a list is made of, looked through for the target
pub seen_in_threes : (t : MutationTarget) (ns : List ℕ) → list_any (tells_target t) (first_chunks 3 (length ns / 3) ns) ≡ target_seen t ns
unfolding target_seen
seen_in_threes t [] = refl
seen_in_threes t (k ∷ []) = refl
seen_in_threes t (k ∷ f ∷ []) = refl
seen_in_threes t (k ∷ f ∷ s ∷ ns) =
    let more : length (k ∷ f ∷ s ∷ ns) / 3 ≡ suc (length ns / 3) = omega arith in
    rw more (ap₂ ◌||◌ (tells_equal t k f s) (seen_in_threes t ns))

-- one turn of the scan
target_seen_turn : (t : MutationTarget) (ns : List ℕ) (at : ℕ) → at + 3 ≤ length ns
    → target_seen t (drop at ns) ≡ (equal_targets t (record { kind = get_or ns at 0; first = get_or ns (at + 1) 0; second = get_or ns (at + 2) 0 }) || target_seen t (drop (at + 3) ns))
unfolding target_seen
target_seen_turn t ns at h = ap (target_seen t) (three_at ns at h)

module _ (t : MutationTarget) (ns : List ℕ) (at : ℕ) (within : at + 3 ≤ length ns) where
  pub target_seen_here : equal_targets t (record { kind = get_or ns at 0; first = get_or ns (at + 1) 0; second = get_or ns (at + 2) 0 }) ≡ true → target_seen t (drop at ns) ≡ true
  target_seen_here e = target_seen_turn t ns at within ∙ rw e

  pub target_seen_on : equal_targets t (record { kind = get_or ns at 0; first = get_or ns (at + 1) 0; second = get_or ns (at + 2) 0 }) ≡ false → target_seen t (drop at ns) ≡ target_seen t (drop (at + 3) ns)
  target_seen_on e = target_seen_turn t ns at within ∙ rw e

-- fewer than three numbers are no target
pub target_seen_end : (t : MutationTarget) (ns : List ℕ) → length ns < 3 → target_seen t ns ≡ false
unfolding target_seen
target_seen_end t [] h = refl
target_seen_end t (k ∷ []) h = refl
target_seen_end t (k ∷ f ∷ []) h = refl
target_seen_end t (k ∷ f ∷ s ∷ ns) h = absurd (omega arith)

seen_each : (o : Operation) (os : List Operation) → target_seen (mutation_target o) (flat_map target_numbers os) ≡ any (same_target o) os
unfolding target_seen target_numbers flat_map same_target equal_targets
seen_each o [] = refl
seen_each o (u ∷ os) = ap (λ t. same_target o u || t) (seen_each o os)

-- the scan finds a repeat exactly if an earlier operation of the patch has the same kind, ids, slot and key: what `repeated_at` of Rules asks
pub scan_finds_repeats : (o : Operation) (earlier : List Operation)
    → (target_seen (mutation_target o) (flat_map target_numbers earlier) ≡ true) ↔ ((u : Operation) × Memᴰ u earlier × (mutation_target u ≡ mutation_target o))
scan_finds_repeats o earlier = (
  (λ h. let w = any_member (same_target o) earlier (sym (seen_each o earlier) ∙ h) in (w.0, w.1, same_target_true o w.0 w.2)),
  λ w. seen_each o earlier ∙ member_any (same_target o) earlier w.1 (true_same_target o w.0 w.2),
)

-- the same with the earlier operations named last first, as the checks of the meaning do
pub seen_earlier : (o : Operation) (os : List Operation) → target_seen (mutation_target o) (flat_map target_numbers os) ≡ any (same_target o) (reverse os)
seen_earlier o os = seen_each o os ∙ sym (any_reverse (same_target o) os)

-- three stores in a row
stored : (ns : List ℕ) (used a b c : ℕ) → used + 3 ≤ length ns → set (set (set ns used a) (suc used) b) (suc (suc used)) c ≡ take used ns ++ (a ∷ b ∷ c ∷ drop (suc (suc (suc used))) ns)
stored [] used a b c h = absurd (omega arith)
stored (x ∷ []) zero a b c h = absurd (omega arith)
stored (x ∷ y ∷ []) zero a b c h = absurd (omega arith)
stored (x ∷ y ∷ z ∷ ns) zero a b c h = refl
stored (x ∷ ns) (suc used) a b c h = ap (λ l. x ∷ l) (stored ns used a b c (omega arith))

pub three_stored : (ns : List ℕ) (used a b c : ℕ) → used + 3 ≤ length ns → set (set (set ns used a) (used + 1) b) (used + 2) c ≡ take used ns ++ (a ∷ b ∷ c ∷ drop (used + 3) ns)
three_stored ns used a b c h =
    let one : used + 1 ≡ suc used = omega arith in
    let two : used + 2 ≡ suc (suc used) = omega arith in
    let three : used + 3 ≡ suc (suc (suc used)) = omega arith in
    rw (one, two, three) (stored ns used a b c h)

-- what stands in front then
pub with_target_front : (used : ℕ) (t : MutationTarget) (ns : List ℕ) → used + 3 ≤ length ns → take (used + 3) (with_target used t ns) ≡ take used ns ++ numbers_of t
unfolding with_target
with_target_front used t ns h =
    let size : used + 3 ≡ length (take used ns ++ numbers_of t) = omega (arith, length-append (take used ns) (numbers_of t), length-take used ns) in
    ap (take (used + 3)) (sym (append_assoc (take used ns) (numbers_of t) (drop (used + 3) ns))) ∙ take_at (take used ns ++ numbers_of t) (drop (used + 3) ns) (used + 3) (sym size)

pub with_target_length : (used : ℕ) (t : MutationTarget) (ns : List ℕ) → used + 3 ≤ length ns → length (with_target used t ns) ≡ length ns
unfolding with_target
with_target_length used t ns h = omega (arith, length-append (take used ns) (numbers_of t ++ drop (used + 3) ns), length-append (numbers_of t) (drop (used + 3) ns), length-take used ns, length-drop (used + 3) ns)

-- the numbers of one operation more
pub targets_snoc : (done : List Operation) (o : Operation) → flat_map target_numbers (done ++ (o ∷ [])) ≡ flat_map target_numbers done ++ target_numbers o
unfolding flat_map target_numbers
targets_snoc done o = flat_map_append target_numbers done (o ∷ [])

-- ---- tests in another order

pub and_false : (a : Bool) → (a && false) ≡ false
and_false true = refl
and_false false = refl

pub and_true : (a : Bool) → (a && true) ≡ a
and_true true = refl
and_true false = refl
