-- What an operation is on, and what it does to its own collection's list: 01, 'Projection', seen through the lookups.
use Rattle.std.specs.Prelude.{ℕ, Bool, List, [], ◌∷◌, ◌++◌, eqb}
use Rattle.std.proofs.Math.Option.{Option, none, some}
use Rattle.spec_patch.specs.Patch.{Operation, set_binding, set_availability, insert, update, remove, move}
use Rattle.spec_projection.specs.FirstMatch.{find_first, insert_before_first, replace_first, remove_first}
use Rattle.spec_projection.specs.Lookups.{KeyedValue}

-- Binding (node, slot), Node or Collection
pub data Target : Type 0 where
  binding_target : (node slot : ℕ) → Target
  node_target : (node : ℕ) → Target
  collection_target : (collection : ℕ) → Target

-- one target for each operation
unfoldable pub target_of : Operation → Target
target_of (set_binding node slot v) = binding_target node slot
target_of (set_availability node a) = node_target node
target_of (insert c k before v) = collection_target c
target_of (update c k v) = collection_target c
target_of (remove c k) = collection_target c
target_of (move c k before) = collection_target c

-- an entry of that key
unfoldable pub has_key : ℕ → KeyedValue → Bool
has_key k e = eqb e.key k

-- before the neighbour, or last
unfoldable pub insert_keyed : Option ℕ → KeyedValue → List KeyedValue → List KeyedValue
insert_keyed none e l = l ++ e ∷ []
insert_keyed (some k) e l = insert_before_first (has_key k) e l

-- what was found is taken out, then inserted again
unfoldable pub move_keyed : Option ℕ → ℕ → Option KeyedValue → List KeyedValue → List KeyedValue
move_keyed before k none l = l
move_keyed before k (some e) l = insert_keyed before e (remove_first (has_key k) l)

-- the list of an operation's collection, after an operation of that patch that applies
unfoldable pub collection_after : ℕ → Operation → List KeyedValue → List KeyedValue
collection_after id (set_binding node slot v) l = l
collection_after id (set_availability node a) l = l
collection_after id (insert c k before v) l = insert_keyed before (record { key = k; mark = id; value = v }) l
collection_after id (update c k v) l = replace_first (has_key k) (record { key = k; mark = id; value = v }) l
collection_after id (remove c k) l = remove_first (has_key k) l
collection_after id (move c k before) l = move_keyed before k (find_first (has_key k) l) l
