-- The place that is reported of a set that never applies is the first operation that contradicts those before it.
use Rattle.std.specs.Prelude.{ℕ, ◌+◌, ◌≡◌, refl, ◌↔◌, length}
use Rattle.std.proofs.Common.{sym, ◌∙◌, subst, arith}
use Rattle.std.proofs.Math.Path.{ap}
use mathlib.Core.List.{List, [], ◌∷◌, ◌++◌, append_assoc, append-nil, flat_map}
use Rattle.std.proofs.Math.Option.{Option, none, some, none-ne-some}
use Rattle.spec_lists.proofs.ListLaws.{flat_map_append}
use Rattle.spec_patch.specs.Patch.{Operation, Patch}
use Rattle.spec_projection.specs.Apply.{operations_of}
use Rattle.spec_dependencies.specs.Expectations.{Expectation, expectations}
use Rattle.spec_dependencies.specs.Settled.{Settled, judge_all}
use Rattle.spec_dependencies.specs.Dependencies.{SettlingWalk, settles, contradicts, settle_patches, never_applicable, dependencies_by, dependencies}
use Rattle.spec_dependencies.specs.Presence.{Accepts}
use Rattle.spec_dependencies.specs.Claim.{Possible, FirstContradiction}
use Rattle.spec_dependencies.proofs.SettledLaws.{current_none, starts_none, accepted, accepting, told_start, told_starts}
use Rattle.spec_dependencies.proofs.RunLaws.{expectations_of}
use Rattle.spec_dependencies.proofs.WalkLaws.{judged_first, further_judged, Stops, walk_stops, stops_walk}

-- expectations contradict one another exactly if no start meets them
judged_possible : (es : List Expectation) (t : List Settled) → judge_all es [] ≡ some t → Possible es
judged_possible es t e = (told_start t, subst (Accepts es) (current_none (told_start t)) (accepting (told_start t) es [] t e (told_starts t)).1)

possible_judged : (es : List Expectation) → Possible es → (t : List Settled) × (judge_all es [] ≡ some t)
possible_judged es (h, a) =
    let (t, e, starts) = accepted h es [] (starts_none h) (subst (Accepts es) (sym (current_none h)) a) in
    (t, e)

impossible_judged : (es : List Expectation) → ¬ Possible es → judge_all es [] ≡ none
impossible_judged es n = go (judge_all es []) refl
  where
    go : (x : Option (List Settled)) → judge_all es [] ≡ x → x ≡ none
    go none e = refl
    go (some t) e = absurd (n (judged_possible es t e))

module _ (a b : List Operation) (o : Operation) where
  split_before : flat_map expectations (a ++ b) ≡ flat_map expectations a ++ flat_map expectations b
  split_before = flat_map_append expectations a b

  split_last : flat_map expectations (a ++ (b ++ (o ∷ []))) ≡ flat_map expectations (a ++ b) ++ expectations o
  unfolding flat_map
  split_last =
      ap (flat_map expectations) (sym (append_assoc a b (o ∷ []))) ∙ flat_map_append expectations (a ++ b) (o ∷ [])
      ∙ ap (λ l. flat_map expectations (a ++ b) ++ l) (append-nil (expectations o))

-- the place that is reported is the first operation that contradicts, and no other place is
pub never_first : (ps : List Patch) (i j : ℕ) → (dependencies ps ≡ never_applicable i j) ↔ FirstContradiction ps i j
unfolding dependencies dependencies_by
never_first ps i j = (λ e. first (walk_stops 0 ps [] i j (contradicted (settle_patches 0 ps []) e)), back)
  where
    contradicted : (w : SettlingWalk) → dependencies_by w ≡ never_applicable i j → w ≡ contradicts i j
    contradicted (settles t) e = let z : ◌≡◌ {A = ℕ} 0 1 = cc in absurd (omega arith)
    contradicted (contradicts a b) e =
        let places : a ≡ i = cc in
        let indices : b ≡ j = cc in
        λ x. contradicts (places x) (indices x)

    first : Stops 0 ps [] i j → FirstContradiction ps i j
    first s =
        let w = s.within in
        let judges : judge_all (flat_map expectations (operations_of s.earlier ++ w.before)) [] ≡ some w.table =
        ap (λ es. judge_all es []) (split_before (operations_of s.earlier) w.before w.operation)
        ∙ further_judged (expectations_of s.earlier) (flat_map expectations w.before) [] s.reached s.ran ∙ w.settled in
        let fails : judge_all (flat_map expectations (operations_of s.earlier ++ (w.before ++ (w.operation ∷ [])))) [] ≡ none =
        ap (λ es. judge_all es []) (split_last (operations_of s.earlier) w.before w.operation)
        ∙ further_judged (flat_map expectations (operations_of s.earlier ++ w.before)) (expectations w.operation) [] w.table judges ∙ w.contradiction in
        record {
          earlier = s.earlier;
          patch = s.patch;
          later = s.later;
          patches = s.parts;
          patch_index = omega (arith, s.index);
          before = w.before;
          operation = w.operation;
          behind = w.behind;
          operations = w.parts;
          operation_index = omega (arith, w.index);
          possible = judged_possible _ w.table judges;
          impossible = λ m. let told = possible_judged _ m in none-ne-some told.0 (sym fails ∙ told.1);
        }

    back : FirstContradiction ps i j → dependencies_by (settle_patches 0 ps []) ≡ never_applicable i j
    back f =
        let (t, judges) = possible_judged _ f.possible in
        let (r, ran, settled) = judged_first (expectations_of f.earlier) (flat_map expectations f.before) [] t
        (ap (λ es. judge_all es []) (sym (split_before (operations_of f.earlier) f.before f.operation)) ∙ judges) in
        let fails : judge_all (expectations f.operation) t ≡ none =
        sym (further_judged (flat_map expectations (operations_of f.earlier ++ f.before)) (expectations f.operation) [] t judges)
        ∙ ap (λ es. judge_all es []) (sym (split_last (operations_of f.earlier) f.before f.operation)) ∙ impossible_judged _ f.impossible in
        let index : 0 + length f.earlier ≡ i = omega (arith, f.patch_index) in
        ap dependencies_by
        (ap (λ l. settle_patches 0 l []) f.patches
        ∙ stops_walk 0 f.earlier f.patch f.later f.before f.operation f.behind [] r t f.operations ran settled fails
        ∙ (λ x. contradicts (index x) (f.operation_index x)))
