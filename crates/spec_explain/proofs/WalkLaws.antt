-- A walk that goes through has run every step; one that ends names the first operation that is refused.
use Rattle.std.specs.Prelude.{ℕ, suc, ◌+◌, Bool, true, length}
use Rattle.std.proofs.Math.Path.{◌≡◌, refl, sym, ap}
use Rattle.std.proofs.Common.{◌∙◌, arith}
use mathlib.Core.List.{List, [], ◌∷◌, ◌++◌, append_assoc, map, map-append, flat_map}
use Rattle.std.proofs.Math.Option.{Option, none, some}
use Rattle.spec_lists.specs.Lists.{all}
use Rattle.spec_lists.proofs.ListLaws.{test_cases}
use Rattle.spec_patch.specs.Patch.{Operation, Patch}
use Rattle.spec_projection.specs.Apply.{ReplayStep, step_of, step_operations, patch_steps, replay_steps, operations_of}
use Rattle.spec_projection.proofs.ApplyLaws.{replay_steps_append, operations_of_append, replay_steps_operations}
use Rattle.spec_explain.specs.Walk.{Halt, Walk, through, halted, walk_on, walk_step, walk_operations, walk_patches, if_some, At, patch_id, steps_before, operations_before, run_steps, First, tested, FirstLacking}

module _ {S : Type 0} (step : S → ℕ → Operation → Option S) where
  through_is : {s t : S} → through s ≡ through t → s ≡ t
  through_is e = cc

  not_both : {C : Type 0} {s : S} {h : Halt S} → through s ≡ halted h → C
  not_both e = absurd (let z : ◌≡◌ {A = ℕ} 0 1 = cc in omega arith)

  -- steps in two runs
  pub run_steps_append : (s : S) (a b : List ReplayStep) → run_steps step s (a ++ b) ≡ if_some (run_steps step s a) (λ t. run_steps step t b)
  unfolding run_steps
  run_steps_append s [] b = refl
  run_steps_append s (r ∷ a) b = go (step s r.patch r.operation) (λ t. run_steps_append t a b)
    where
      go : (x : Option S) → ((t : S) → run_steps step t (a ++ b) ≡ if_some (run_steps step t a) (λ u. run_steps step u b))
          → if_some x (λ t. run_steps step t (a ++ b)) ≡ if_some (if_some x (λ t. run_steps step t a)) (λ u. run_steps step u b)
      go none later = refl
      go (some t) later = later t

  -- ---- the operations of one patch

  module _ (i id : ℕ) where
    -- the first of these operations that is refused, counted from j on
    record FirstHere (j : ℕ) (s : S) (os : List Operation) (h : Halt S) : Type 0 where
      before : List Operation
      behind : List Operation
      operations : os ≡ before ++ (h.refused ∷ behind)
      place : j + length before ≡ h.operation
      index : i ≡ h.patch
      ran : run_steps step s (map (step_of id) before) ≡ some h.left
      ends : step h.left id h.refused ≡ none

    operations_through : (j : ℕ) (s : S) (os : List Operation) (t : S) → walk_operations step i id j s os ≡ through t → run_steps step s (map (step_of id) os) ≡ some t
    unfolding walk_operations run_steps
    operations_through j s [] t e = ap some (through_is e)
    operations_through j s (o ∷ os) t e = go (step s id o) (λ u. operations_through (suc j) u os t) e
      where
        go : (x : Option S) → ((u : S) → walk_operations step i id (suc j) u os ≡ through t → run_steps step u (map (step_of id) os) ≡ some t)
            → walk_on (walk_step i j s o x) (λ u. walk_operations step i id (suc j) u os) ≡ through t → if_some x (λ u. run_steps step u (map (step_of id) os)) ≡ some t
        go none later e = not_both (sym e)
        go (some u) later e = later u e

    operations_first : (j : ℕ) (s : S) (os : List Operation) (h : Halt S) → walk_operations step i id j s os ≡ halted h → FirstHere j s os h
    unfolding walk_operations run_steps
    operations_first j s [] h e = not_both e
    operations_first j s (o ∷ os) h e = go (step s id o) refl (λ u. operations_first (suc j) u os h) e
      where
        halted_is : {g k : Halt S} → halted g ≡ halted k → g ≡ k
        halted_is e = cc

        go : (x : Option S) → step s id o ≡ x → ((u : S) → walk_operations step i id (suc j) u os ≡ halted h → FirstHere (suc j) u os h)
            → walk_on (walk_step i j s o x) (λ u. walk_operations step i id (suc j) u os) ≡ halted h → FirstHere j s (o ∷ os) h
        go none is later e =
            let same = halted_is e in
            record {
              before = [];
              behind = os;
              operations = ap (λ (g : Halt S). g.refused ∷ os) same;
              place = (omega arith) ∙ ap (λ (g : Halt S). g.operation) same;
              index = ap (λ (g : Halt S). g.patch) same;
              ran = ap (λ (g : Halt S). some g.left) same;
              ends = ap (λ (g : Halt S). step g.left id g.refused) (sym same) ∙ is;
            }
        go (some u) is later e =
            let f = later u e in
            record {
              before = o ∷ f.before;
              behind = f.behind;
              operations = ap (λ (l : List Operation). o ∷ l) f.operations;
              place = omega (arith, f.place);
              index = f.index;
              ran = rw is f.ran;
              ends = f.ends;
            }

  -- ---- all patches

  pub walk_through : (i : ℕ) (s : S) (ps : List Patch) (t : S) → walk_patches step i s ps ≡ through t → run_steps step s (replay_steps ps) ≡ some t
  unfolding walk_patches replay_steps patch_steps flat_map run_steps
  walk_through i s [] t e = ap some (through_is e)
  walk_through i s (p ∷ ps) t e = go (walk_operations step i p.envelope.id 0 s p.operations) refl (λ u. walk_through (suc i) u ps t) e
    where
      go : (x : Walk S) → walk_operations step i p.envelope.id 0 s p.operations ≡ x → ((u : S) → walk_patches step (suc i) u ps ≡ through t → run_steps step u (replay_steps ps) ≡ some t)
          → walk_on x (λ u. walk_patches step (suc i) u ps) ≡ through t → run_steps step s (map (step_of p.envelope.id) p.operations ++ replay_steps ps) ≡ some t
      go (halted h) is later e = not_both (sym e)
      go (through u) is later e =
          run_steps_append s (map (step_of p.envelope.id) p.operations) (replay_steps ps)
          ∙ ap (λ (x : Option S). if_some x (λ t. run_steps step t (replay_steps ps))) (operations_through i p.envelope.id 0 s p.operations u is)
          ∙ later u e

  -- the first of these patches' operations that is refused, patches counted from i on
  record FirstFrom (i : ℕ) (s : S) (ps : List Patch) (h : Halt S) : Type 0 where
    earlier : List Patch
    patch : Patch
    later : List Patch
    patches : ps ≡ earlier ++ (patch ∷ later)
    patch_index : i + length earlier ≡ h.patch
    before : List Operation
    behind : List Operation
    operations : patch.operations ≡ before ++ (h.refused ∷ behind)
    operation_index : length before ≡ h.operation
    ran : run_steps step s (replay_steps earlier ++ map (step_of patch.envelope.id) before) ≡ some h.left
    ends : step h.left patch.envelope.id h.refused ≡ none

  first_from : (i : ℕ) (s : S) (ps : List Patch) (h : Halt S) → walk_patches step i s ps ≡ halted h → FirstFrom i s ps h
  unfolding walk_patches replay_steps patch_steps flat_map run_steps
  first_from i s [] h e = not_both e
  first_from i s (p ∷ ps) h e = go (walk_operations step i p.envelope.id 0 s p.operations) refl (λ u. first_from (suc i) u ps h) e
    where
      go : (x : Walk S) → walk_operations step i p.envelope.id 0 s p.operations ≡ x → ((u : S) → walk_patches step (suc i) u ps ≡ halted h → FirstFrom (suc i) u ps h)
          → walk_on x (λ u. walk_patches step (suc i) u ps) ≡ halted h → FirstFrom i s (p ∷ ps) h
      go (halted g) is later e =
          let f = operations_first i p.envelope.id 0 s p.operations h (is ∙ e) in
          record {
            earlier = [];
            patch = p;
            later = ps;
            patches = refl;
            patch_index = (omega arith) ∙ f.index;
            before = f.before;
            behind = f.behind;
            operations = f.operations;
            operation_index = omega (arith, f.place);
            ran = f.ran;
            ends = f.ends;
          }
      go (through u) is later e =
          let f = later u e in
          let own = map (step_of p.envelope.id) p.operations in
          let others = map (step_of f.patch.envelope.id) f.before in
          record {
            earlier = p ∷ f.earlier;
            patch = f.patch;
            later = f.later;
            patches = ap (λ (l : List Patch). p ∷ l) f.patches;
            patch_index = omega (arith, f.patch_index);
            before = f.before;
            behind = f.behind;
            operations = f.operations;
            operation_index = f.operation_index;
            ran = ap (run_steps step s) (append_assoc own (replay_steps f.earlier) others)
                ∙ run_steps_append s own (replay_steps f.earlier ++ others)
                ∙ ap (λ (x : Option S). if_some x (λ t. run_steps step t (replay_steps f.earlier ++ others))) (operations_through i p.envelope.id 0 s p.operations u is)
                ∙ f.ran;
            ends = f.ends;
          }

  -- where the walk ends, the operations before go through and the named one does not
  pub walk_first : (s : S) (ps : List Patch) (h : Halt S) → walk_patches step 0 s ps ≡ halted h → First step s ps h
  walk_first s ps h e =
      let f = first_from 0 s ps h e in
      record {
        there = record {
          earlier = f.earlier;
          patch = f.patch;
          later = f.later;
          patches = f.patches;
          patch_index = omega (arith, f.patch_index);
          before = f.before;
          behind = f.behind;
          operations = f.operations;
          operation_index = f.operation_index;
        };
        ran = f.ran;
        ends = f.ends;
      }

-- ---- the operation in its list

module _ {ps : List Patch} {i j : ℕ} {o : Operation} (a : At ps i j o) where
  abbrev steps_behind : List ReplayStep
  steps_behind = map (step_of (patch_id a)) a.behind ++ replay_steps a.later

  -- the steps of the list: those before it, it, and the others
  pub steps_parted : replay_steps ps ≡ steps_before a ++ (step_of (patch_id a) o ∷ steps_behind)
  unfolding replay_steps patch_steps flat_map
  steps_parted =
      ap replay_steps a.patches ∙ replay_steps_append a.earlier (a.patch ∷ a.later)
      ∙ ap (λ (l : List Operation). replay_steps a.earlier ++ (map (step_of (patch_id a)) l ++ replay_steps a.later)) a.operations
      ∙ ap (λ (l : List ReplayStep). replay_steps a.earlier ++ (l ++ replay_steps a.later)) (map-append (step_of (patch_id a)) a.before (o ∷ a.behind))
      ∙ ap (λ (l : List ReplayStep). replay_steps a.earlier ++ l) (append_assoc (map (step_of (patch_id a)) a.before) (step_of (patch_id a) o ∷ map (step_of (patch_id a)) a.behind) (replay_steps a.later))
      ∙ sym (append_assoc (replay_steps a.earlier) (map (step_of (patch_id a)) a.before) (step_of (patch_id a) o ∷ steps_behind))

  -- and the operations of the list
  pub operations_parted : operations_of ps ≡ operations_before a ++ (o ∷ (a.behind ++ operations_of a.later))
  unfolding operations_of flat_map
  operations_parted =
      ap operations_of a.patches ∙ operations_of_append a.earlier (a.patch ∷ a.later)
      ∙ ap (λ (l : List Operation). operations_of a.earlier ++ (l ++ operations_of a.later)) a.operations
      ∙ ap (λ (l : List Operation). operations_of a.earlier ++ l) (append_assoc a.before (o ∷ a.behind) (operations_of a.later))
      ∙ sym (append_assoc (operations_of a.earlier) a.before (o ∷ (a.behind ++ operations_of a.later)))

  -- the operations of the steps before it
  pub operations_before_lem : step_operations (steps_before a) ≡ operations_before a
  operations_before_lem =
      map-append (λ (s : ReplayStep). s.operation) (replay_steps a.earlier) (map (step_of (patch_id a)) a.before)
      ∙ ap (λ (l : List Operation). l ++ step_operations (map (step_of (patch_id a)) a.before)) (replay_steps_operations a.earlier)
      ∙ ap (λ (l : List Operation). operations_of a.earlier ++ l) (same a.before)
    where
      same : (os : List Operation) → step_operations (map (step_of (patch_id a)) os) ≡ os
      same [] = refl
      same (x ∷ os) = ap (λ (l : List Operation). x ∷ l) (same os)

-- ---- a test of every operation

module _ (test : Operation → Bool) where
  all_pass : (ss : List ReplayStep) → run_steps (tested test) tt ss ≡ some tt → all test (step_operations ss) ≡ true
  unfolding run_steps tested
  all_pass [] e = refl
  all_pass (r ∷ ss) e = test_cases (test r.operation)
      (λ t. rw t (all_pass ss (rw t at e)))
      (λ t. absurd (let z : ◌≡◌ {A = ℕ} 0 1 = cc (rw t at e) in omega arith))

  pub test_through : (ps : List Patch) (u : Unit {0}) → walk_patches (tested test) 0 tt ps ≡ through u → all test (operations_of ps) ≡ true
  test_through ps u e = ap (all test) (sym (replay_steps_operations ps)) ∙ all_pass (replay_steps ps) (walk_through (tested test) 0 tt ps u e)

  pub test_first : (ps : List Patch) (h : Halt (Unit {0})) → walk_patches (tested test) 0 tt ps ≡ halted h → FirstLacking test ps h.patch h.operation
  unfolding tested
  test_first ps h e =
      let f = walk_first (tested test) tt ps h e in
      record {
        operation = h.refused;
        there = f.there;
        passed = ap (all test) (sym (operations_before_lem f.there)) ∙ all_pass (steps_before f.there) f.ran;
        lacks = test_cases (test h.refused) (λ t. absurd (let z : ◌≡◌ {A = ℕ} 0 1 = cc (rw t at f.ends) in omega arith)) (λ t. t);
      }
