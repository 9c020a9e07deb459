-- The walk with its indices settles what all expectations in a row settle; and where it ends, it ends at the first operation that contradicts.
use Rattle.std.specs.Prelude.{ℕ, suc, ◌+◌, ◌≡◌, refl, length}
use Rattle.std.proofs.Common.{sym, ap, ◌∙◌, subst, arith}
use mathlib.Core.List.{List, [], ◌∷◌, ◌++◌, flat_map}
use Rattle.std.proofs.Math.Option.{Option, none, some, none-ne-some, some-injective}
use Rattle.spec_lists.proofs.ListLaws.{flat_map_append}
use Rattle.spec_patch.specs.Patch.{Operation, Patch}
use Rattle.spec_projection.specs.Apply.{operations_of}
use Rattle.spec_dependencies.specs.Expectations.{Expectation, expectations}
use Rattle.spec_dependencies.specs.Settled.{Settled, further_settled, judge_all}
use Rattle.spec_dependencies.proofs.SettledLaws.{further_some, judge_all_append}
use Rattle.spec_dependencies.specs.Dependencies.{SettlingWalk, settles, contradicts, settle_on, settle_step, settle_operations, settle_patches}
use Rattle.spec_dependencies.proofs.RunLaws.{expectations_of}

-- ---- the table

-- what a walk settles, or none
abbrev pub table_of : SettlingWalk → Option (List Settled)
table_of (settles t) = some t
table_of (contradicts i j) = none

table_on : (w : SettlingWalk) (f : List Settled → SettlingWalk) → table_of (settle_on w f) ≡ further_settled (table_of w) (λ t. table_of (f t))
table_on (settles t) f = refl
table_on (contradicts i j) f = refl

table_step : (i j : ℕ) (x : Option (List Settled)) → table_of (settle_step i j x) ≡ x
table_step i j none = refl
table_step i j (some t) = refl

further_same : (x y : Option (List Settled)) (f g : List Settled → Option (List Settled)) → x ≡ y → ((t : List Settled) → f t ≡ g t) → further_settled x f ≡ further_settled y g
further_same x y f g e h = ap (λ z. further_settled z f) e ∙ go y
  where
    go : (z : Option (List Settled)) → further_settled z f ≡ further_settled z g
    go none = refl
    go (some t) = h t

operations_table : (i j : ℕ) (os : List Operation) (t : List Settled) → table_of (settle_operations i j os t) ≡ judge_all (flat_map expectations os) t
unfolding settle_operations flat_map judge_all
operations_table i j [] t = refl
operations_table i j (o ∷ os) t =
    table_on (settle_step i j (judge_all (expectations o) t)) (λ u. settle_operations i (j + 1) os u)
    ∙ further_same _ _ _ _ (table_step i j (judge_all (expectations o) t)) (λ u. operations_table i (j + 1) os u)
    ∙ sym (judge_all_append (expectations o) (flat_map expectations os) t)

pub walk_table : (i : ℕ) (ps : List Patch) (t : List Settled) → table_of (settle_patches i ps t) ≡ judge_all (expectations_of ps) t
unfolding settle_patches operations_of flat_map judge_all
walk_table i [] t = refl
walk_table i (p ∷ ps) t =
    table_on (settle_operations i 0 p.operations t) (λ u. settle_patches (i + 1) ps u)
    ∙ further_same _ _ _ _ (operations_table i 0 p.operations t) (λ u. walk_table (i + 1) ps u)
    ∙ sym (judge_all_append (flat_map expectations p.operations) (expectations_of ps) t)
    ∙ ap (λ es. judge_all es t) (sym (flat_map_append expectations p.operations (operations_of ps)))

-- ---- where it ends

settles_not : {t : List Settled} {i j : ℕ} → settles t ≡ contradicts i j → ⊥
settles_not e = let z : ◌≡◌ {A = ℕ} 0 1 = cc in omega arith

pub further_judged : (a b : List Expectation) (t u : List Settled) → judge_all a t ≡ some u → judge_all (a ++ b) t ≡ judge_all b u
further_judged a b t u e = judge_all_append a b t ∙ ap (λ x. further_settled x (λ v. judge_all b v)) e

-- in a patch, from operation j on
pub record StopsIn (i j : ℕ) (os : List Operation) (t : List Settled) (a b : ℕ) : Type 0 where
  pub before : List Operation
  pub operation : Operation
  pub behind : List Operation
  pub parts : os ≡ before ++ (operation ∷ behind)
  pub patch : i ≡ a
  pub index : j + length before ≡ b
  pub table : List Settled
  pub settled : judge_all (flat_map expectations before) t ≡ some table
  pub contradiction : judge_all (expectations operation) table ≡ none

stops_in : (i j : ℕ) (os : List Operation) (t : List Settled) (a b : ℕ) → settle_operations i j os t ≡ contradicts a b → StopsIn i j os t a b
unfolding settle_operations judge_all flat_map
stops_in i j [] t a b h = absurd (settles_not h)
stops_in i j (o ∷ os) t a b h = go (judge_all (expectations o) t) refl h (λ u. stops_in i (j + 1) os u a b)
  where
    go : (x : Option (List Settled)) → judge_all (expectations o) t ≡ x → settle_on (settle_step i j x) (λ u. settle_operations i (j + 1) os u) ≡ contradicts a b
        → ((u : List Settled) → settle_operations i (j + 1) os u ≡ contradicts a b → StopsIn i (j + 1) os u a b) → StopsIn i j (o ∷ os) t a b
    go none e h further =
        let places : i ≡ a = cc in
        let indices : j ≡ b = cc in
        record { before = []; operation = o; behind = os; parts = refl; patch = places; index = omega arith; table = t; settled = refl; contradiction = e }
    go (some u) e h further =
        let s = further u h in
        record {
          before = o ∷ s.before;
          operation = s.operation;
          behind = s.behind;
          parts = ap (λ l. o ∷ l) s.parts;
          patch = s.patch;
          index = omega (arith, s.index);
          table = s.table;
          settled = further_judged (expectations o) (flat_map expectations s.before) t u e ∙ s.settled;
          contradiction = s.contradiction;
        }

-- in a set, from patch i on
pub record Stops (i : ℕ) (ps : List Patch) (t : List Settled) (a b : ℕ) : Type 0 where
  pub earlier : List Patch
  pub patch : Patch
  pub later : List Patch
  pub parts : ps ≡ earlier ++ (patch ∷ later)
  pub index : i + length earlier ≡ a
  pub reached : List Settled
  pub ran : judge_all (expectations_of earlier) t ≡ some reached
  pub within : StopsIn a 0 patch.operations reached a b

pub walk_stops : (i : ℕ) (ps : List Patch) (t : List Settled) (a b : ℕ) → settle_patches i ps t ≡ contradicts a b → Stops i ps t a b
unfolding settle_patches judge_all flat_map operations_of
walk_stops i [] t a b h = absurd (settles_not h)
walk_stops i (p ∷ ps) t a b h = go (settle_operations i 0 p.operations t) refl h (λ u. walk_stops (i + 1) ps u a b)
  where
    go : (w : SettlingWalk) → settle_operations i 0 p.operations t ≡ w → settle_on w (λ u. settle_patches (i + 1) ps u) ≡ contradicts a b
        → ((u : List Settled) → settle_patches (i + 1) ps u ≡ contradicts a b → Stops (i + 1) ps u a b) → Stops i (p ∷ ps) t a b
    go (contradicts c d) e h further =
        let s = stops_in i 0 p.operations t a b (e ∙ h) in
        record { earlier = []; patch = p; later = ps; parts = refl; index = omega (arith, s.patch); reached = t; ran = refl; within = subst (λ x. StopsIn x 0 p.operations t a b) s.patch s }
    go (settles u) e h further =
        let s = further u h in
        record {
          earlier = p ∷ s.earlier;
          patch = s.patch;
          later = s.later;
          parts = ap (λ l. p ∷ l) s.parts;
          index = omega (arith, s.index);
          reached = s.reached;
          ran =
              ap (λ es. judge_all es t) (flat_map_append expectations p.operations (operations_of s.earlier))
              ∙ further_judged (flat_map expectations p.operations) (expectations_of s.earlier) t u (sym (operations_table i 0 p.operations t) ∙ ap table_of e) ∙ s.ran;
          within = s.within;
        }

-- ---- an operation that contradicts is where it ends

settled_walk : (w : SettlingWalk) (t : List Settled) → table_of w ≡ some t → w ≡ settles t
settled_walk (settles u) t e = ap settles (some-injective u t e)
settled_walk (contradicts i j) t e = absurd (none-ne-some t e)

-- what all settle, the first of them settle
pub judged_first : (a b : List Expectation) (t u : List Settled) → judge_all (a ++ b) t ≡ some u → (r : List Settled) × (judge_all a t ≡ some r) × (judge_all b r ≡ some u)
judged_first a b t u e = further_some (judge_all a t) (λ v. judge_all b v) u (sym (judge_all_append a b t) ∙ e)

operations_run : (i j : ℕ) (before : List Operation) (o : Operation) (behind : List Operation) (t u : List Settled)
    → judge_all (flat_map expectations before) t ≡ some u → judge_all (expectations o) u ≡ none → settle_operations i j (before ++ (o ∷ behind)) t ≡ contradicts i (j + length before)
unfolding settle_operations judge_all flat_map
operations_run i j [] o behind t u settled contradiction =
    let none_left : judge_all (expectations o) t ≡ none = ap (λ r. judge_all (expectations o) r) (some-injective t u settled) ∙ contradiction in
    let index : j ≡ j + 0 = omega arith in
    ap (λ x. settle_on (settle_step i j x) (λ r. settle_operations i (j + 1) behind r)) none_left ∙ ap (contradicts i) index
operations_run i j (x ∷ before) o behind t u settled contradiction =
    let (r, first, others) = judged_first (expectations x) (flat_map expectations before) t u settled in
    let index : (j + 1) + length before ≡ j + suc (length before) = omega arith in
    ap (λ y. settle_on (settle_step i j y) (λ v. settle_operations i (j + 1) (before ++ (o ∷ behind)) v)) first
    ∙ operations_run i (j + 1) before o behind r u others contradiction ∙ ap (contradicts i) index

pub stops_walk : (i : ℕ) (earlier : List Patch) (patch : Patch) (later : List Patch) (before : List Operation) (o : Operation) (behind : List Operation) (t r u : List Settled)
    → patch.operations ≡ before ++ (o ∷ behind)
    → judge_all (expectations_of earlier) t ≡ some r → judge_all (flat_map expectations before) r ≡ some u → judge_all (expectations o) u ≡ none
    → settle_patches i (earlier ++ (patch ∷ later)) t ≡ contradicts (i + length earlier) (length before)
unfolding settle_patches judge_all flat_map operations_of
stops_walk i [] patch later before o behind t r u parts ran settled contradiction =
    let index : i ≡ i + 0 = omega arith in
    let place : 0 + length before ≡ length before = omega arith in
    let ends : settle_operations i 0 patch.operations t ≡ contradicts (i + 0) (length before) =
    ap (λ os. settle_operations i 0 os t) parts ∙ operations_run i 0 before o behind t u (ap (λ x. judge_all (flat_map expectations before) x) (some-injective t r ran) ∙ settled) contradiction
    ∙ (λ x. contradicts (index x) (place x)) in
    ap (λ w. settle_on w (λ v. settle_patches (i + 1) later v)) ends
stops_walk i (q ∷ earlier) patch later before o behind t r u parts ran settled contradiction =
    let (v, first, others) = judged_first (flat_map expectations q.operations) (expectations_of earlier) t r (ap (λ es. judge_all es t) (sym (flat_map_append expectations q.operations (operations_of earlier))) ∙ ran) in
    let walked = settled_walk (settle_operations i 0 q.operations t) v (operations_table i 0 q.operations t ∙ first) in
    let index : (i + 1) + length earlier ≡ i + suc (length earlier) = omega arith in
    ap (λ w. settle_on w (λ x. settle_patches (i + 1) (earlier ++ (patch ∷ later)) x)) walked
    ∙ stops_walk (i + 1) earlier patch later before o behind v r u parts others settled contradiction ∙ ap (λ n. contradicts n (length before)) index
