-- What is known of an operation that applied: its tests held, and the projection afterwards.
use Rattle.std.specs.Prelude.{ℕ, ◌≤◌, ◌≡◌, refl, Bool, true, false, length, if◌then◌else◌}
use Rattle.std.proofs.Math.Option.{Option, none, some}
use Rattle.std.proofs.Common.{leb-true}
use Rattle.std.proofs.lemmas.Bool.{not-false}
use Rattle.spec_lists.specs.Order.{upsert}
use Rattle.spec_patch.specs.Sizes.{projection_bindings, projection_availabilities, projection_entries}
use Rattle.spec_projection.specs.Projection.{Binding, NodeAvailability, Entry, Projection, binding_key, availability_key}
use Rattle.spec_projection.specs.Entries.{contains, contains_neighbour, insert_entry, replace_entry, remove_entry}
use Rattle.spec_projection.specs.Apply.{OperationFault, Outcome, done, stopped, with_bindings, with_availabilities, with_entries, apply_binding, apply_availability, apply_insert, apply_update, apply_remove, apply_move}
use Rattle.spec_projection.proofs.ApplyLaws.{stopped_not_done}

-- a test that must hold did
held : (t : Bool) (p : Projection) (fault : OperationFault) (q : Projection) → (if t then done p else stopped fault) ≡ done q → (t ≡ true) × (q ≡ p)
held true p fault q e = (refl, cc)
held false p fault q e = (cc, cc)

-- a test that must not hold did not
not_held : (t : Bool) (x : Outcome) (fault : OperationFault) (q : Projection) → (if t then stopped fault else x) ≡ done q → (t ≡ false) × (x ≡ done q)
not_held true x fault q e = (cc, cc)
not_held false x fault q e = (refl, e)

pub applied_binding : (p : Projection) (b : Binding) (q : Projection) → apply_binding p b ≡ done q
    → (length (upsert binding_key b p.bindings) ≤ projection_bindings) × (q ≡ with_bindings p (upsert binding_key b p.bindings))
unfolding apply_binding
applied_binding p b q e =
    let h = held _ _ _ q e in
    (leb-true (length (upsert binding_key b p.bindings)) projection_bindings h.0, h.1)

pub applied_availability : (p : Projection) (a : NodeAvailability) (q : Projection) → apply_availability p a ≡ done q
    → (length (upsert availability_key a p.availabilities) ≤ projection_availabilities) × (q ≡ with_availabilities p (upsert availability_key a p.availabilities))
unfolding apply_availability
applied_availability p a q e =
    let h = held _ _ _ q e in
    (leb-true (length (upsert availability_key a p.availabilities)) projection_availabilities h.0, h.1)

pub record AppliedInsert (p : Projection) (before : Option ℕ) (e : Entry) (q : Projection) : Type 0 where
  pub absent : contains e.collection e.key p.entries ≡ false
  pub neighbour : contains_neighbour e.collection before p.entries ≡ true
  pub room : length (insert_entry before e p.entries) ≤ projection_entries
  pub result : q ≡ with_entries p (insert_entry before e p.entries)

pub applied_insert : (p : Projection) (before : Option ℕ) (e : Entry) (q : Projection) → apply_insert p before e ≡ done q → AppliedInsert p before e q
unfolding apply_insert
applied_insert p before e q h =
    let h₁ = not_held _ _ _ q h in
    let h₂ = not_held _ _ _ q h₁.1 in
    let h₃ = held _ _ _ q h₂.1 in
    record { absent = h₁.0; neighbour = not-false _ h₂.0; room = leb-true (length (insert_entry before e p.entries)) projection_entries h₃.0; result = h₃.1 }

pub applied_update : (p : Projection) (e : Entry) (q : Projection) → apply_update p e ≡ done q
    → (contains e.collection e.key p.entries ≡ true) × (q ≡ with_entries p (replace_entry e p.entries))
unfolding apply_update
applied_update p e q h = held _ _ _ q h

pub applied_remove : (p : Projection) (c k : ℕ) (q : Projection) → apply_remove p c k ≡ done q
    → (contains c k p.entries ≡ true) × (q ≡ with_entries p (remove_entry c k p.entries))
unfolding apply_remove
applied_remove p c k q h = held _ _ _ q h

pub record AppliedMove (p : Projection) (before : Option ℕ) (found : Option Entry) (q : Projection) : Type 0 where
  pub entry : Entry
  pub found_entry : found ≡ some entry
  pub neighbour : contains_neighbour entry.collection before (remove_entry entry.collection entry.key p.entries) ≡ true
  pub result : q ≡ with_entries p (insert_entry before entry (remove_entry entry.collection entry.key p.entries))

pub applied_move : (p : Projection) (before : Option ℕ) (found : Option Entry) (q : Projection) → apply_move p before found ≡ done q → AppliedMove p before found q
unfolding apply_move
applied_move p before none q h = absurd (stopped_not_done h)
applied_move p before (some e) q h =
    let tested = held _ _ _ q h in
    record { entry = e; found_entry = refl; neighbour = tested.0; result = tested.1 }
