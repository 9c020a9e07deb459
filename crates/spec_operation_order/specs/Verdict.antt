-- What one operation answers: 8 by its own collection's list alone, 9 by the places alone; and what it leaves where it applies.
use Rattle.std.specs.Prelude.{ℕ, ◌+◌, ◌≤◌, ◌≡◌, Bool, true, false, not, ◌&&◌, List, [], length}
use Rattle.std.proofs.Math.Option.{Option, none, some}
use Rattle.spec_lists.specs.Lists.{any}
use Rattle.spec_lists.specs.Order.{upsert}
use Rattle.spec_patch.specs.Sizes.{projection_bindings, projection_availabilities, projection_entries}
use Rattle.spec_patch.specs.Patch.{Operation, set_binding, set_availability, insert, update, remove, move}
use Rattle.spec_projection.specs.Projection.{Binding, NodeAvailability, Projection, binding_key, availability_key}
use Rattle.spec_projection.specs.FirstMatch.{remove_first}
use Rattle.spec_projection.specs.Lookups.{KeyedValue, entries_of}
use Rattle.spec_projection.specs.Apply.{key_rule, projection_full, Outcome, done, stopped}
use Rattle.spec_projection.specs.Effects.{Target, binding_target, node_target, collection_target, target_of, has_key}
use Rattle.spec_operation_order.specs.FreeOrder.{inserted}

-- ---- the rules for keys

unfoldable pub has_neighbour : Option ℕ → List KeyedValue → Bool
has_neighbour none l = true
has_neighbour (some k) l = any (has_key k) l

-- the key and the neighbour that an operation on this list asks for
unfoldable pub keys_fit : List KeyedValue → Operation → Bool
keys_fit l (set_binding node slot v) = true
keys_fit l (set_availability node a) = true
keys_fit l (insert c k before v) = not (any (has_key k) l) && has_neighbour before l
keys_fit l (update c k v) = any (has_key k) l
keys_fit l (remove c k) = any (has_key k) l
keys_fit l (move c k before) = any (has_key k) l && has_neighbour before (remove_first (has_key k) l)

-- the list that is looked at
abbrev pub values_at : Projection → Target → List KeyedValue
values_at p (binding_target node slot) = []
values_at p (node_target node) = []
values_at p (collection_target c) = entries_of p c

-- ---- the places

-- a row replaced or added, if there is one
unfoldable pub put : {A : Type 0} → (A → List ℕ) → Option A → List A → List A
put key none l = l
put key (some a) l = upsert key a l

unfoldable pub sets_binding : Operation → Option Binding
sets_binding (set_binding n s v) = some (record { node = n; slot = s; mark = 0; value = v })
sets_binding (set_availability n a) = none
sets_binding (insert c k before v) = none
sets_binding (update c k v) = none
sets_binding (remove c k) = none
sets_binding (move c k before) = none

unfoldable pub sets_availability : Operation → Option NodeAvailability
sets_availability (set_binding n s v) = none
sets_availability (set_availability n a) = some (record { node = n; mark = 0; availability = a })
sets_availability (insert c k before v) = none
sets_availability (update c k v) = none
sets_availability (remove c k) = none
sets_availability (move c k before) = none

-- so many rows are within the capacities
pub record WithinCapacities (b a e : ℕ) : Type 0 where
  pub bindings : b ≤ projection_bindings
  pub availabilities : a ≤ projection_availabilities
  pub entries : e ≤ projection_entries

abbrev pub FitsCapacities : Projection → Type 0
FitsCapacities p = WithinCapacities (length p.bindings) (length p.availabilities) (length p.entries)

-- with what the operation sets and inserts
abbrev pub VerdictPlace : Projection → Operation → Type 0
VerdictPlace p o = WithinCapacities (length (put binding_key (sets_binding o) p.bindings)) (length (put availability_key (sets_availability o) p.availabilities)) (length p.entries + inserted o)

-- ---- the verdict

pub record Leaves (p : Projection) (o : Operation) (q : Projection) : Type 0 where
  pub fit : keys_fit (values_at p (target_of o)) o ≡ true
  pub place : FitsCapacities p → VerdictPlace p o
  pub bindings : q.bindings ≡ put binding_key (sets_binding o) p.bindings
  pub availabilities : q.availabilities ≡ put availability_key (sets_availability o) p.availabilities
  pub entries : length q.entries ≤ length p.entries + inserted o

-- 8 where the keys do not fit, 9 where they do and there is no place
abbrev pub Verdict : Projection → Operation → Outcome → Type 0
Verdict p o (done q) = Leaves p o q
Verdict p o (stopped key_rule) = keys_fit (values_at p (target_of o)) o ≡ false
Verdict p o (stopped projection_full) = (keys_fit (values_at p (target_of o)) o ≡ true) × (VerdictPlace p o → ⊥)
