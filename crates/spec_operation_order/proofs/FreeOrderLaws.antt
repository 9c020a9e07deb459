-- The order is kept on every target exactly where exchanges of neighbours on different targets lead from the one list to the other.
use Rattle.std.specs.Prelude.{◌≡◌, refl, ◌≢◌, ◌↔◌, true, false, eqb, if◌then◌else◌}
use Rattle.std.proofs.Common.{sym, ap, ◌∙◌, subst, eqb-true, eq-eqb}
use Rattle.std.proofs.lemmas.Bool.{false≢true}
use mathlib.Core.List.{List, [], ◌∷◌, ◌++◌, cons≢nil, head-eq_of_cons-eq, tail-eq_of_cons-eq}
use mathlib.Core.List.Permᴰ
use mathlib.Core.List.{Permᴰ}
use Rattle.spec_lists.specs.Lists.{All}
use Rattle.spec_lists.proofs.ListLaws.{and_left, and_right, test_cases}
use Rattle.spec_patch.specs.Patch.{Operation}
use Rattle.spec_projection.specs.Effects.{Target, binding_target, node_target, collection_target, target_of}
use Rattle.spec_operation_order.specs.FreeOrder.{is_same_target, operations_on, OrderKept, Exchanges, unchanged, exchange, behind, further}

-- ---- targets

pub is_same_target_true : (t u : Target) → is_same_target t u ≡ true → t ≡ u
unfolding is_same_target
is_same_target_true (binding_target n s) (binding_target m t) e =
    λ i. binding_target (eqb-true n m (and_left (eqb n m) (eqb s t) e) i) (eqb-true s t (and_right (eqb n m) (eqb s t) e) i)
is_same_target_true (binding_target n s) (node_target m) e = cc
is_same_target_true (binding_target n s) (collection_target d) e = cc
is_same_target_true (node_target n) (binding_target m t) e = cc
is_same_target_true (node_target n) (node_target m) e = ap node_target (eqb-true n m e)
is_same_target_true (node_target n) (collection_target d) e = cc
is_same_target_true (collection_target c) (binding_target m t) e = cc
is_same_target_true (collection_target c) (node_target m) e = cc
is_same_target_true (collection_target c) (collection_target d) e = ap collection_target (eqb-true c d e)

same_target_self : (t : Target) → is_same_target t t ≡ true
unfolding is_same_target
same_target_self (binding_target n s) = rw (eq-eqb n n refl) (eq-eqb s s refl)
same_target_self (node_target n) = eq-eqb n n refl
same_target_self (collection_target c) = eq-eqb c c refl

pub is_same_target_false : (t u : Target) → is_same_target t u ≡ false → t ≢ u
is_same_target_false t u e s = false≢true (sym e ∙ rw s (same_target_self u))

pub target_cases : {G : Type 0} (t u : Target) → (t ≡ u → G) → (t ≢ u → G) → G
target_cases t u same other = test_cases (is_same_target t u) (λ e. same (is_same_target_true t u e)) (λ e. other (is_same_target_false t u e))

-- ---- the operations on one target

pub on_own : (t : Target) (o : Operation) (os : List Operation) → target_of o ≡ t → operations_on t (o ∷ os) ≡ o ∷ operations_on t os
unfolding operations_on
on_own t o os e = rw (e, same_target_self t)

pub on_other : (t : Target) (o : Operation) (os : List Operation) → target_of o ≢ t → operations_on t (o ∷ os) ≡ operations_on t os
unfolding operations_on
on_other t o os n = test_cases (is_same_target (target_of o) t) (λ e. absurd (n (is_same_target_true (target_of o) t e))) (λ e. rw e)

-- one more operation in front of both lists
on_behind : (t : Target) (o : Operation) (left right : List Operation) → operations_on t left ≡ operations_on t right → operations_on t (o ∷ left) ≡ operations_on t (o ∷ right)
unfolding operations_on
on_behind t o left right e = ap (λ (l : List Operation). if is_same_target (target_of o) t then o ∷ l else l) e

-- ---- exchanges keep the order

kept_exchange : (a b : Operation) (os : List Operation) → target_of a ≢ target_of b → OrderKept (a ∷ b ∷ os) (b ∷ a ∷ os)
kept_exchange a b os n t = target_cases (target_of a) t
    (λ e. let other : target_of b ≢ t = λ f. n (e ∙ sym f) in on_behind t a (b ∷ os) os (on_other t b os other) ∙ sym (on_other t b (a ∷ os) other))
    (λ other. on_other t a (b ∷ os) other ∙ on_behind t b os (a ∷ os) (sym (on_other t a os other)))

exchanges_kept : {left right : List Operation} → Exchanges left right → OrderKept left right
exchanges_kept (unchanged os) t = refl
exchanges_kept (exchange a b os n) t = kept_exchange a b os n t
exchanges_kept (behind {left} {right} o x) t = on_behind t o left right (exchanges_kept x t)
exchanges_kept (further x y) t = exchanges_kept x t ∙ exchanges_kept y t

-- ---- a kept order comes about by exchanges

-- an operation is the first on its target
record FirstOn (t : Target) (o : Operation) (os : List Operation) : Type 0 where
  earlier : List Operation
  later : List Operation
  parts : os ≡ earlier ++ o ∷ later
  others : All (λ (x : Operation). target_of x ≢ t) earlier

first_on : (t : Target) (o : Operation) (rest os : List Operation) → operations_on t os ≡ o ∷ rest → FirstOn t o os
unfolding operations_on
first_on t o rest [] h = absurd (cons≢nil (sym h))
first_on t o rest (x ∷ os) h = target_cases (target_of x) t
    (λ e. record { earlier = []; later = os; parts = ap (λ y. y ∷ os) (head-eq_of_cons-eq (sym (on_own t x os e) ∙ h)); others = tt })
    (λ n. let f = first_on t o rest os (sym (on_other t x os n) ∙ h) in
    record { earlier = x ∷ f.earlier; later = f.later; parts = ap (λ l. x ∷ l) f.parts; others = (n, f.others) })

-- it goes behind operations on other targets, one exchange for each
past : (o : Operation) (earlier later : List Operation) → All (λ (x : Operation). target_of x ≢ target_of o) earlier → Exchanges (o ∷ (earlier ++ later)) (earlier ++ o ∷ later)
past o [] later h = unchanged (o ∷ later)
past o (x ∷ earlier) later h = further (exchange o x (earlier ++ later) (λ e. h.0 (sym e))) (behind x (past o earlier later h.1))

-- without the operation in front of both
kept_tail : (o : Operation) (left right : List Operation) → OrderKept (o ∷ left) (o ∷ right) → OrderKept left right
kept_tail o left right k t = target_cases (target_of o) t
    (λ e. tail-eq_of_cons-eq (sym (on_own t o left e) ∙ k t ∙ on_own t o right e))
    (λ n. sym (on_other t o left n) ∙ k t ∙ on_other t o right n)

kept_empty : (right : List Operation) → OrderKept [] right → right ≡ []
unfolding operations_on
kept_empty [] k = refl
kept_empty (o ∷ right) k = absurd (cons≢nil (sym (k (target_of o) ∙ on_own (target_of o) o right refl)))

kept_exchanges : (left right : List Operation) → OrderKept left right → Exchanges left right
kept_exchanges [] right k = subst (Exchanges []) (sym (kept_empty right k)) (unchanged [])
kept_exchanges (o ∷ left) right k =
    let f = first_on (target_of o) o (operations_on (target_of o) left) right (sym (k (target_of o)) ∙ on_own (target_of o) o left refl) in
    let moved = past o f.earlier f.later f.others in
    let tails : OrderKept left (f.earlier ++ f.later) = kept_tail o left (f.earlier ++ f.later) (λ t. k t ∙ ap (operations_on t) f.parts ∙ sym (exchanges_kept moved t)) in
    subst (Exchanges (o ∷ left)) (sym f.parts) (further (behind o (kept_exchanges left (f.earlier ++ f.later) tails)) moved)

-- both directions
pub kept_exactly : (left right : List Operation) → OrderKept left right ↔ Exchanges left right
kept_exactly left right = (kept_exchanges left right, exchanges_kept)

-- ---- it is a rearrangement: each operation stands as often in the one list as in the other

exchanges_permutation : {left right : List Operation} → Exchanges left right → Permᴰ left right
exchanges_permutation (unchanged os) = Permᴰ.refl os
exchanges_permutation (exchange a b os n) = Permᴰ.swap refl refl
exchanges_permutation (behind o x) = Permᴰ.cons refl (exchanges_permutation x)
exchanges_permutation (further x y) = Permᴰ.trans (exchanges_permutation x) (exchanges_permutation y)

pub kept_permutation : (left right : List Operation) → OrderKept left right → Permᴰ left right
kept_permutation left right k = exchanges_permutation (kept_exchanges left right k)
