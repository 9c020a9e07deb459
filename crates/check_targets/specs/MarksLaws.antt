-- A target without a mark was not seen, and marks are kept as targets are added.
use Rattle.std.specs.Prelude.{ℕ, ◌<◌, ◌≡◌, refl, true, false, eqb, length, get_or, set}
use Rattle.std.proofs.Common.{sym, ap, ◌∙◌, arith, mod-lt, eqb-true, length-set, get_or-set_same, get_or-set_other}
use mathlib.Core.List.{List, [], ◌∷◌, ◌++◌, flat_map}
use Rattle.std.proofs.lemmas.Bool.{eqb-false}
use Rattle.spec_lists.specs.Lists.{All}
use Rattle.spec_lists.proofs.ListLaws.{flat_map_append, test_cases, and_left, and_right}
use Rattle.spec_checks.specs.Target.{MutationTarget}
use Rattle.check_targets.specs.Targets.{equal_targets, numbers_of, target_seen}
use Rattle.check_targets.specs.Marks.{mark_places, mark_of, HasMark, Marked}

pub mark_within : (t : MutationTarget) → mark_of t < mark_places
unfolding mark_of
mark_within t = mod-lt _ (omega arith)

equal_marks : (t u : MutationTarget) → equal_targets t u ≡ true → mark_of t ≡ mark_of u
unfolding equal_targets mark_of
equal_marks t u e =
    let kinds : t.kind ≡ u.kind = eqb-true t.kind u.kind (and_left (eqb t.kind u.kind) _ e) in
    let both = and_right (eqb t.kind u.kind) _ e in
    let firsts : t.first ≡ u.first = eqb-true t.first u.first (and_left (eqb t.first u.first) _ both) in
    let seconds : t.second ≡ u.second = eqb-true t.second u.second (and_right (eqb t.first u.first) _ both) in
    rw (kinds, firsts, seconds)

unseen : (marks : List ℕ) (t : MutationTarget) → get_or marks (mark_of t) 0 ≡ 0 → (ts : List MutationTarget) → All (HasMark marks) ts → target_seen t (flat_map numbers_of ts) ≡ false
unfolding target_seen flat_map
unseen marks t z [] h = refl
unseen marks t z (u ∷ ts) h =
    test_cases (equal_targets t u)
    (λ e. let one : 0 ≡ 1 = sym z ∙ ap (λ (m : ℕ). get_or marks m 0) (equal_marks t u e) ∙ h.0 in absurd (omega arith))
    (λ e. rw e (unseen marks t z ts h.1))

-- a target without a mark is not among the numbers
pub unmarked_unseen : (marks numbers : List ℕ) (t : MutationTarget) → Marked marks numbers → get_or marks (mark_of t) 0 ≡ 0 → target_seen t numbers ≡ false
unmarked_unseen marks numbers t m z = ap (target_seen t) m.are ∙ unseen marks t z m.targets m.each

-- no numbers need marks
pub marked_none : (marks : List ℕ) → length marks ≡ mark_places → Marked marks []
unfolding flat_map
marked_none marks long = record { long = long; targets = []; are = refl; each = tt }

module _ (marks : List ℕ) (long : length marks ≡ mark_places) (t : MutationTarget) where
  own_mark : HasMark (set marks (mark_of t) 1) t
  own_mark = get_or-set_same marks (mark_of t) 1 0 (omega (arith, mark_within t))

  mark_kept : (u : MutationTarget) → HasMark marks u → HasMark (set marks (mark_of t) 1) u
  mark_kept u h =
      test_cases (eqb (mark_of u) (mark_of t))
      (λ e. ap (λ (m : ℕ). get_or (set marks (mark_of t) 1) m 0) (eqb-true (mark_of u) (mark_of t) e) ∙ own_mark)
      (λ e. get_or-set_other marks (mark_of t) (mark_of u) 1 0 (eqb-false (mark_of u) (mark_of t) e) ∙ h)

  each_kept : (ts : List MutationTarget) → All (HasMark marks) ts → All (HasMark (set marks (mark_of t) 1)) (ts ++ (t ∷ []))
  each_kept [] h = (own_mark, tt)
  each_kept (u ∷ ts) h = (mark_kept u h.0, each_kept ts h.1)

-- a target is added with its mark
pub marked_more : (marks numbers : List ℕ) (t : MutationTarget) → Marked marks numbers → Marked (set marks (mark_of t) 1) (numbers ++ numbers_of t)
unfolding flat_map
marked_more marks numbers t m = record {
  long = length-set marks (mark_of t) 1 ∙ m.long;
  targets = m.targets ++ (t ∷ []);
  are = ap (λ (l : List ℕ). l ++ numbers_of t) m.are ∙ sym (flat_map_append numbers_of m.targets (t ∷ []));
  each = each_kept marks m.long t m.targets m.each;
}
