-- Grouping by targets keeps the order on each target, if every operation is on one of them and none stands twice.
use Rattle.std.specs.Prelude.{◌≡◌, refl, ◌≢◌, true, false, not, if◌then◌else◌}
use Rattle.std.proofs.Common.{sym, ap, ◌∙◌}
use Rattle.std.proofs.lemmas.Bool.{false≢true, not-true}
use mathlib.Core.List.{List, [], ◌∷◌, ◌++◌, flat_map, append-nil}
use Rattle.spec_lists.proofs.ListLaws.{and_left, and_right, test_cases}
use Rattle.spec_patch.specs.Patch.{Operation}
use Rattle.spec_projection.specs.Effects.{Target, target_of}
use Rattle.spec_operation_order.specs.FreeOrder.{is_same_target, operations_on, OrderKept}
use Rattle.spec_operation_order.proofs.FreeOrderLaws.{is_same_target_true, is_same_target_false, target_cases, on_own, on_other}
use Rattle.spec_operation_order.specs.Grouping.{grouped_by, is_among, distinct, covers}

-- ---- one target's operations, of lists put together and of another target's

on_append : (t : Target) (a b : List Operation) → operations_on t (a ++ b) ≡ operations_on t a ++ operations_on t b
unfolding operations_on
on_append t [] b = refl
on_append t (o ∷ a) b = target_cases (target_of o) t
    (λ e. on_own t o (a ++ b) e ∙ ap (λ l. o ∷ l) (on_append t a b) ∙ ap (λ l. l ++ operations_on t b) (sym (on_own t o a e)))
    (λ n. on_other t o (a ++ b) n ∙ on_append t a b ∙ ap (λ l. l ++ operations_on t b) (sym (on_other t o a n)))

on_same : (t : Target) (os : List Operation) → operations_on t (operations_on t os) ≡ operations_on t os
unfolding operations_on
on_same t [] = refl
on_same t (o ∷ os) = target_cases (target_of o) t
    (λ e. ap (operations_on t) (on_own t o os e) ∙ on_own t o (operations_on t os) e ∙ ap (λ l. o ∷ l) (on_same t os) ∙ sym (on_own t o os e))
    (λ n. ap (operations_on t) (on_other t o os n) ∙ on_same t os ∙ sym (on_other t o os n))

on_different : (t u : Target) (os : List Operation) → u ≢ t → operations_on t (operations_on u os) ≡ []
unfolding operations_on
on_different t u [] n = refl
on_different t u (o ∷ os) n = target_cases (target_of o) u
    (λ e. ap (operations_on t) (on_own u o os e) ∙ on_other t o (operations_on u os) (λ f. n (sym e ∙ f)) ∙ on_different t u os n)
    (λ m. ap (operations_on t) (on_other u o os m) ∙ on_different t u os n)

-- a target's operations after grouping: all of them in their order if it is one of the groups, else none
grouped_on : (t : Target) (ts : List Target) (os : List Operation) → distinct ts ≡ true → operations_on t (grouped_by ts os) ≡ (if is_among ts t then operations_on t os else [])
unfolding grouped_by flat_map operations_on is_among distinct
grouped_on t [] os d = refl
grouped_on t (u ∷ ts) os d =
    let rest = grouped_on t ts os (and_right (not (is_among ts u)) (distinct ts) d) in
    on_append t (operations_on u os) (grouped_by ts os)
    ∙ test_cases (is_same_target t u)
    (λ s. let e = is_same_target_true t u s in
    let absent : is_among ts t ≡ false = rw e (not-true (is_among ts u) (and_left (not (is_among ts u)) (distinct ts) d)) in
    ap (λ l. operations_on t (operations_on u os) ++ l) rest ∙ rw (s, absent) (append-nil (operations_on t (operations_on u os)) ∙ rw e (on_same u os)))
    (λ s. ap (λ l. l ++ operations_on t (grouped_by ts os)) (on_different t u os (λ e. is_same_target_false t u s (sym e))) ∙ rest ∙ rw s)

-- a target that is no group has no operations, if the groups cover the list
uncovered : (t : Target) (ts : List Target) (os : List Operation) → is_among ts t ≡ false → covers ts os ≡ true → operations_on t os ≡ []
unfolding operations_on covers
uncovered t ts [] h c = refl
uncovered t ts (o ∷ os) h c =
    on_other t o os (λ e. false≢true (sym h ∙ rw e at (and_left (is_among ts (target_of o)) (covers ts os) c)))
    ∙ uncovered t ts os h (and_right (is_among ts (target_of o)) (covers ts os) c)

-- whatever the order of the groups
pub grouping_keeps : (ts : List Target) (os : List Operation) → distinct ts ≡ true → covers ts os ≡ true → OrderKept os (grouped_by ts os)
grouping_keeps ts os d c t = test_cases (is_among ts t)
    (λ m. sym (grouped_on t ts os d ∙ rw m))
    (λ m. uncovered t ts os m c ∙ sym (grouped_on t ts os d ∙ rw m))
