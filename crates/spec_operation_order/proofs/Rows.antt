-- Bindings and availabilities are set and never removed: operations on different targets set them in either order, and the rows only grow.
use Rattle.std.specs.Prelude.{ℕ, ◌≤◌, ◌≡◌, ◌≢◌, eqb}
use Rattle.std.proofs.Math.Path.{refl, ap}
use Rattle.std.proofs.Common.{sym, ◌∙◌}
use Rattle.std.proofs.lemmas.Bool.{false≢true}
use mathlib.Core.List.{List, [], ◌∷◌, head-eq_of_cons-eq, tail-eq_of_cons-eq}
use Rattle.std.proofs.Math.Option.{Option, none, some, map, some-injective}
use native.Mathlib.Omega.{arith}
use Rattle.std.proofs.Math.ListN.{length}
use Rattle.spec_lists.specs.Lists.{equal_lists}
use Rattle.spec_lists.proofs.ListLaws.{test_cases, equal_lists_true, equal_lists_refl}
use Rattle.spec_lists.specs.Order.{upsert, lookup, Ascending}
use Rattle.spec_lists.proofs.OrderLaws.{upsert_cases, upsert_ascending}
use Rattle.spec_lists.proofs.LookupLaws.{lookup_upsert, lookup_upsert_other, ascending_determined}
use Rattle.spec_patch.specs.Patch.{Operation, set_binding, set_availability, insert, update, remove, move}
use Rattle.spec_projection.specs.Projection.{Binding, NodeAvailability, binding_key, availability_key}
use Rattle.spec_projection.specs.Effects.{target_of, binding_target, node_target}
use Rattle.spec_operation_order.specs.FreeOrder.{Exchanges, unchanged, exchange, behind, further}
use Rattle.spec_operation_order.specs.Verdict.{put, sets_binding, sets_availability}

-- the rows that a list of operations sets
unfoldable pub put_all : {A : Type 0} → (A → List ℕ) → (Operation → Option A) → List A → List Operation → List A
put_all key sets l [] = l
put_all key sets l (o ∷ os) = put_all key sets (put key (sets o) l) os

key_cases : {G : Type 0} (a b : List ℕ) → (a ≡ b → G) → (a ≢ b → G) → G
key_cases a b same other = test_cases (equal_lists eqb a b) (λ s. same (equal_lists_true a b s)) (λ s. other (λ e. false≢true (sym s ∙ rw e (equal_lists_refl b))))

module _ {A : Type 0} (key : A → List ℕ) where
  upsert_grows : (a : A) (l : List A) → length l ≤ length (upsert key a l)
  unfolding upsert
  upsert_grows a [] = omega arith
  upsert_grows a (x ∷ l) = upsert_cases key (λ m. length (x ∷ l) ≤ length m) a x l (λ e. omega arith) (λ e. omega (arith, upsert_grows a l)) (λ e. omega arith)

  -- two rows of different keys, in either order
  upsert_commutes : (x y : A) (l : List A) → Ascending key l → key x ≢ key y → upsert key y (upsert key x l) ≡ upsert key x (upsert key y l)
  upsert_commutes x y l g n =
      ascending_determined key (λ (a : A). a) (λ a b k v. v) (upsert key y (upsert key x l)) (upsert key x (upsert key y l))
      (upsert_ascending key y (upsert key x l) (upsert_ascending key x l g)) (upsert_ascending key x (upsert key y l) (upsert_ascending key y l g))
      (λ a. ap (map (λ (b : A). b)) (found a))
    where
      found : (a : A) → lookup key (key a) (upsert key y (upsert key x l)) ≡ lookup key (key a) (upsert key x (upsert key y l))
      found a = key_cases (key x) (key a)
          (λ e. rw (← e) (lookup_upsert_other key (key x) y (upsert key x l) (λ f. n (sym f)) ∙ lookup_upsert key x l ∙ sym (lookup_upsert key x (upsert key y l))))
          (λ past-x. key_cases (key y) (key a)
          (λ e. rw (← e) (lookup_upsert key y (upsert key x l) ∙ sym (lookup_upsert_other key (key y) x (upsert key y l) n ∙ lookup_upsert key y l)))
          (λ past-y. lookup_upsert_other key (key a) y (upsert key x l) past-y ∙ lookup_upsert_other key (key a) x l past-x
          ∙ sym (lookup_upsert_other key (key a) x (upsert key y l) past-x ∙ lookup_upsert_other key (key a) y l past-y)))

  put_ascending : (x : Option A) (l : List A) → Ascending key l → Ascending key (put key x l)
  unfolding put
  put_ascending none l g = g
  put_ascending (some a) l g = upsert_ascending key a l g

  put_grows : (x : Option A) (l : List A) → length l ≤ length (put key x l)
  unfolding put
  put_grows none l = omega arith
  put_grows (some a) l = upsert_grows a l

module _ {A : Type 0} (key : A → List ℕ) (sets : Operation → Option A) where
  pub put_all_grows : (l : List A) (os : List Operation) → length l ≤ length (put_all key sets l os)
  unfolding put_all
  put_all_grows l [] = omega arith
  put_all_grows l (o ∷ os) = omega (arith, put_grows key (sets o) l, put_all_grows (put key (sets o) l) os)

-- operations on different targets set rows of different keys
module _ {A : Type 0} (key : A → List ℕ) (sets : Operation → Option A)
    (apart : (a b : Operation) (x y : A) → sets a ≡ some x → sets b ≡ some y → target_of a ≢ target_of b → key x ≢ key y) where
  put_commutes : (a b : Operation) (l : List A) → target_of a ≢ target_of b → Ascending key l → put key (sets b) (put key (sets a) l) ≡ put key (sets a) (put key (sets b) l)
  unfolding put
  put_commutes a b l n g = go (sets a) refl (sets b) refl
    where
      go : (x : Option A) → sets a ≡ x → (y : Option A) → sets b ≡ y → put key y (put key x l) ≡ put key x (put key y l)
      go none e none f = refl
      go none e (some y) f = refl
      go (some x) e none f = refl
      go (some x) e (some y) f = upsert_commutes key x y l g (apart a b x y e f n)

  put_all_exchanges : {left right : List Operation} → Exchanges left right → (l : List A) → Ascending key l → put_all key sets l left ≡ put_all key sets l right
  unfolding put_all
  put_all_exchanges (unchanged os) l g = refl
  put_all_exchanges (exchange a b os n) l g = ap (λ m. put_all key sets m os) (put_commutes a b l n g)
  put_all_exchanges (behind o x) l g = put_all_exchanges x (put key (sets o) l) (put_ascending key (sets o) l g)
  put_all_exchanges (further x y) l g = put_all_exchanges x l g ∙ put_all_exchanges y l g

-- ---- bindings and availabilities

binding_target_lem : (o : Operation) (b : Binding) → sets_binding o ≡ some b → target_of o ≡ binding_target b.node b.slot
unfolding sets_binding target_of
binding_target_lem (set_binding n s v) b e = ap (λ (x : Binding). binding_target x.node x.slot) (some-injective _ _ e)
binding_target_lem (set_availability n a) b e = cc
binding_target_lem (insert c k before v) b e = cc
binding_target_lem (update c k v) b e = cc
binding_target_lem (remove c k) b e = cc
binding_target_lem (move c k before) b e = cc

availability_target : (o : Operation) (a : NodeAvailability) → sets_availability o ≡ some a → target_of o ≡ node_target a.node
unfolding sets_availability target_of
availability_target (set_binding n s v) a e = cc
availability_target (set_availability n x) a e = ap (λ (y : NodeAvailability). node_target y.node) (some-injective _ _ e)
availability_target (insert c k before v) a e = cc
availability_target (update c k v) a e = cc
availability_target (remove c k) a e = cc
availability_target (move c k before) a e = cc

pub bindings_exchange : {left right : List Operation} → Exchanges left right → (l : List Binding) → Ascending binding_key l → put_all binding_key sets_binding l left ≡ put_all binding_key sets_binding l right
unfolding binding_key
bindings_exchange x l g = put_all_exchanges binding_key sets_binding
    (λ a b u v e f n k. n (binding_target_lem a u e ∙ (λ i. binding_target (head-eq_of_cons-eq k i) (head-eq_of_cons-eq (tail-eq_of_cons-eq k) i)) ∙ sym (binding_target_lem b v f))) x l g

pub availabilities_exchange : {left right : List Operation} → Exchanges left right → (l : List NodeAvailability) → Ascending availability_key l
    → put_all availability_key sets_availability l left ≡ put_all availability_key sets_availability l right
unfolding availability_key
availabilities_exchange x l g = put_all_exchanges availability_key sets_availability
    (λ a b u v e f n k. n (availability_target a u e ∙ ap node_target (head-eq_of_cons-eq k) ∙ sym (availability_target b v f))) x l g
