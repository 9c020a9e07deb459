-- An operation that applies changes what it is on and nothing else, and its own collection's list as `collection_after` says.
use Rattle.std.specs.Prelude.{ℕ, ◌≡◌, ◌≢◌}
use Rattle.std.proofs.Common.{sym, ◌∙◌, subst}
use Rattle.std.proofs.Math.Path.{ap}
use mathlib.Core.List.{List, [], ◌∷◌, head-eq_of_cons-eq, tail-eq_of_cons-eq}
use Rattle.std.proofs.Math.Option.{some, map}
use Rattle.spec_lists.specs.Order.{upsert}
use Rattle.spec_lists.proofs.LookupLaws.{lookup_upsert, lookup_upsert_other}
use Rattle.spec_patch.specs.Patch.{Value, Availability, Operation, set_binding, set_availability, insert, update, remove, move}
use Rattle.spec_projection.specs.Projection.{Binding, NodeAvailability, Entry, Projection, binding_key, availability_key}
use Rattle.spec_projection.specs.FirstMatch.{find_first}
use Rattle.spec_projection.proofs.FirstMatchLaws.{find_first_passes}
use Rattle.spec_projection.specs.Entries.{is_entry, insert_entry, replace_entry, remove_entry}
use Rattle.spec_projection.proofs.EntriesLaws.{is_entry_collection, is_entry_key, remove_entry_grouped}
use Rattle.spec_projection.specs.Lookups.{binding_of, availability_of, keyed_value, entries_in, entries_of}
use Rattle.spec_projection.specs.Apply.{done, with_bindings, with_availabilities, with_entries, apply_operation}
use Rattle.spec_projection.proofs.OperationLaws.{applied_binding, applied_availability, applied_insert, applied_update, applied_remove, AppliedMove, applied_move}
use Rattle.spec_projection.specs.Effects.{Target, binding_target, node_target, collection_target, target_of, has_key, insert_keyed, move_keyed, collection_after}
use Rattle.spec_projection.proofs.CollectionLaws.{insert_entry_other, insert_entry_own, replace_entry_other, replace_entry_own, remove_entry_other, remove_entry_own, find_first_own}
use Rattle.spec_projection.specs.Valid.{Grouped}

-- ---- one of the three lists changes, at the operation's target

-- entries that agree with a projection's in every collection but one
record ChangedEntries (p : Projection) (c : ℕ) (q : Projection) : Type 0 where
  pub entries : List Entry
  pub result : q ≡ with_entries p entries
  pub others : (d : ℕ) → c ≢ d → entries_in d entries ≡ entries_in d p.entries

-- the projection afterwards, by the patch's id and the operation's target
abbrev Effect : Projection → ℕ → Target → Projection → Type 0
Effect p id (binding_target n s) q = (v : Value) × (q ≡ with_bindings p (upsert binding_key (record { node = n; slot = s; mark = id; value = v }) p.bindings))
Effect p id (node_target n) q = (a : Availability) × (q ≡ with_availabilities p (upsert availability_key (record { node = n; mark = id; availability = a }) p.availabilities))
Effect p id (collection_target c) q = ChangedEntries p c q

effect : (p : Projection) (id : ℕ) (o : Operation) (q : Projection) → apply_operation p id o ≡ done q → Effect p id (target_of o) q
unfolding apply_operation target_of
effect p id (set_binding n s v) q h = (v, (applied_binding p _ q h).1)
effect p id (set_availability n a) q h = (a, (applied_availability p _ q h).1)
effect p id (insert c k before v) q h =
    let e : Entry = record { collection = c; key = k; mark = id; value = v } in
    record { entries = insert_entry before e p.entries; result = (applied_insert p before e q h).result; others = λ d n. insert_entry_other before e p.entries d n }
effect p id (update c k v) q h =
    let e : Entry = record { collection = c; key = k; mark = id; value = v } in
    record { entries = replace_entry e p.entries; result = (applied_update p e q h).1; others = λ d n. replace_entry_other e p.entries d n }
effect p id (remove c k) q h = record { entries = remove_entry c k p.entries; result = (applied_remove p c k q h).1; others = λ d n. remove_entry_other c k p.entries d n }
effect p id (move c k before) q h =
    let a = applied_move p before (find_first (is_entry c k) p.entries) q h in
    let e = a.entry in
    let own = is_entry_collection c k e (find_first_passes (is_entry c k) p.entries e a.found_entry) in
    record {
      entries = insert_entry before e (remove_entry e.collection e.key p.entries);
      result = a.result;
      others = λ d n. insert_entry_other before e _ d (rw own n) ∙ remove_entry_other e.collection e.key p.entries d (rw own n);
    }

-- ---- nothing else changes

module _ (p : Projection) (id : ℕ) (o : Operation) (q : Projection) (applied : apply_operation p id o ≡ done q) where
  -- an operation on a collection leaves bindings and availabilities
  pub collection_keeps : (c : ℕ) → target_of o ≡ collection_target c → (q.bindings ≡ p.bindings) × (q.availabilities ≡ p.availabilities)
  unfolding with_entries
  collection_keeps c e =
      let result = (subst (λ t. Effect p id t q) e (effect p id o q applied)).result in
      (ap (λ (r : Projection). r.bindings) result, ap (λ (r : Projection). r.availabilities) result)

  -- a set binding leaves availabilities and entries
  pub binding_keeps : (node slot : ℕ) → target_of o ≡ binding_target node slot → (q.availabilities ≡ p.availabilities) × (q.entries ≡ p.entries)
  unfolding with_bindings
  binding_keeps node slot e =
      let result = (subst (λ t. Effect p id t q) e (effect p id o q applied)).1 in
      (ap (λ (r : Projection). r.availabilities) result, ap (λ (r : Projection). r.entries) result)

  -- a set availability leaves bindings and entries
  pub availability_keeps : (node : ℕ) → target_of o ≡ node_target node → (q.bindings ≡ p.bindings) × (q.entries ≡ p.entries)
  unfolding with_availabilities
  availability_keeps node e =
      let result = (subst (λ t. Effect p id t q) e (effect p id o q applied)).1 in
      (ap (λ (r : Projection). r.bindings) result, ap (λ (r : Projection). r.entries) result)

  -- other collections' lists stay
  pub other_collections : (c : ℕ) → target_of o ≢ collection_target c → entries_of q c ≡ entries_of p c
  unfolding entries_of with_bindings with_availabilities with_entries
  other_collections c n = go (target_of o) (effect p id o q applied) n
    where
      go : (t : Target) → Effect p id t q → t ≢ collection_target c → entries_of q c ≡ entries_of p c
      go (binding_target node slot) f n = ap (λ (r : Projection). entries_of r c) f.1
      go (node_target node) f n = ap (λ (r : Projection). entries_of r c) f.1
      go (collection_target d) f n = ap (λ (r : Projection). entries_of r c) f.result ∙ f.others c (λ e. n (ap collection_target e))

  -- other bindings stay
  pub other_bindings : (node slot : ℕ) → target_of o ≢ binding_target node slot → binding_of q node slot ≡ binding_of p node slot
  unfolding binding_of binding_key with_bindings with_availabilities with_entries
  other_bindings node slot n = go (target_of o) (effect p id o q applied) n
    where
      go : (t : Target) → Effect p id t q → t ≢ binding_target node slot → binding_of q node slot ≡ binding_of p node slot
      go (binding_target i j) f n =
          ap (λ (r : Projection). binding_of r node slot) f.1
          ∙ ap (map (λ (b : Binding). b.value)) (lookup_upsert_other binding_key (node ∷ slot ∷ []) _ p.bindings (λ e. n (λ x. binding_target (head-eq_of_cons-eq e x) (head-eq_of_cons-eq (tail-eq_of_cons-eq e) x))))
      go (node_target i) f n = ap (λ (r : Projection). binding_of r node slot) f.1
      go (collection_target d) f n = ap (λ (r : Projection). binding_of r node slot) f.result

  -- other nodes' availabilities stay
  pub other_availabilities : (node : ℕ) → target_of o ≢ node_target node → availability_of q node ≡ availability_of p node
  unfolding availability_of availability_key with_bindings with_availabilities with_entries
  other_availabilities node n = go (target_of o) (effect p id o q applied) n
    where
      go : (t : Target) → Effect p id t q → t ≢ node_target node → availability_of q node ≡ availability_of p node
      go (binding_target i j) f n = ap (λ (r : Projection). availability_of r node) f.1
      go (node_target i) f n =
          ap (λ (r : Projection). availability_of r node) f.1
          ∙ ap (map (λ (a : NodeAvailability). a.availability)) (lookup_upsert_other availability_key (node ∷ []) _ p.availabilities (λ e. n (ap node_target (head-eq_of_cons-eq e))))
      go (collection_target d) f n = ap (λ (r : Projection). availability_of r node) f.result

-- ---- what changes

-- a set binding has its value
pub own_binding : (p : Projection) (id node slot : ℕ) (v : Value) (q : Projection) → apply_operation p id (set_binding node slot v) ≡ done q → binding_of q node slot ≡ some v
unfolding apply_operation binding_of binding_key with_bindings
own_binding p id node slot v q h =
    ap (λ (r : Projection). binding_of r node slot) (applied_binding p _ q h).1 ∙ ap (map (λ (b : Binding). b.value)) (lookup_upsert binding_key _ p.bindings)

-- a node has the availability that was set
pub own_availability : (p : Projection) (id node : ℕ) (a : Availability) (q : Projection) → apply_operation p id (set_availability node a) ≡ done q → availability_of q node ≡ some a
unfolding apply_operation availability_of availability_key with_availabilities
own_availability p id node a q h =
    ap (λ (r : Projection). availability_of r node) (applied_availability p _ q h).1 ∙ ap (map (λ (x : NodeAvailability). x.availability)) (lookup_upsert availability_key _ p.availabilities)

-- the list of the operation's collection, if it is on one
abbrev OwnList : Projection → ℕ → Operation → Projection → Target → Type 0
OwnList p id o q (binding_target node slot) = Unit {0}
OwnList p id o q (node_target node) = Unit {0}
OwnList p id o q (collection_target c) = entries_of q c ≡ collection_after id o (entries_of p c)

own_list : (p : Projection) (id : ℕ) (o : Operation) (q : Projection) → Grouped p.entries → apply_operation p id o ≡ done q → OwnList p id o q (target_of o)
unfolding apply_operation target_of entries_of with_entries collection_after move_keyed
own_list p id (set_binding n s v) q w h = tt
own_list p id (set_availability n a) q w h = tt
own_list p id (insert c k before v) q w h =
    let e : Entry = record { collection = c; key = k; mark = id; value = v } in
    ap (λ (r : Projection). entries_of r c) (applied_insert p before e q h).result ∙ insert_entry_own before e p.entries w
own_list p id (update c k v) q w h =
    let e : Entry = record { collection = c; key = k; mark = id; value = v } in
    ap (λ (r : Projection). entries_of r c) (applied_update p e q h).1 ∙ replace_entry_own e p.entries
own_list p id (remove c k) q w h = ap (λ (r : Projection). entries_of r c) (applied_remove p c k q h).1 ∙ remove_entry_own c k p.entries
own_list p id (move c k before) q w h = go (applied_move p before (find_first (is_entry c k) p.entries) q h)
  where
    go : AppliedMove p before (find_first (is_entry c k) p.entries) q → entries_of q c ≡ move_keyed before k (find_first (has_key k) (entries_of p c)) (entries_of p c)
    go a =
        let e = a.entry in
        let is = find_first_passes (is_entry c k) p.entries e a.found_entry in
        let found : find_first (has_key k) (entries_of p c) ≡ some (keyed_value e) = sym (find_first_own c k p.entries) ∙ ap (map keyed_value) a.found_entry in
        rw (found, ← (is_entry_collection c k e is), ← (is_entry_key c k e is))
        (ap (λ (r : Projection). entries_of r e.collection) a.result
        ∙ insert_entry_own before e (remove_entry e.collection e.key p.entries) (remove_entry_grouped e.collection e.key p.entries w)
        ∙ ap (insert_keyed before (keyed_value e)) (remove_entry_own e.collection e.key p.entries))

-- the collection's own list is what the operation makes of it
pub own_collection : (p : Projection) (id : ℕ) (o : Operation) (q : Projection) (c : ℕ) → Grouped p.entries → apply_operation p id o ≡ done q → target_of o ≡ collection_target c
    → entries_of q c ≡ collection_after id o (entries_of p c)
own_collection p id o q c w h e = subst (OwnList p id o q) e (own_list p id o q w h)
