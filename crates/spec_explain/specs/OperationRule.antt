-- The rules by which an operation fails on a projection: 01, 'Projection'.
use Rattle.std.specs.Prelude.{ℕ, suc, ◌<◌, ◌≡◌, true, false, List, length, if◌then◌else◌}
use Rattle.std.proofs.Math.Option.{Option}
use Rattle.spec_lists.specs.Order.{upsert}
use Rattle.spec_listing.specs.Ascii.{ascii}
use Rattle.spec_patch.specs.Sizes.{projection_bindings, projection_availabilities, projection_entries}
use Rattle.spec_patch.specs.Patch.{Availability, Value, Operation, set_binding, set_availability, insert, update, remove, move}
use Rattle.spec_projection.specs.Projection.{Projection, binding_key, availability_key}
use Rattle.spec_projection.specs.Entries.{contains, contains_neighbour, remove_entry}
use Rattle.spec_projection.specs.Apply.{OperationFault, key_rule, projection_full}

pub data OperationRule : Type 0 where
  key_present key_absent neighbour_absent bindings_full availabilities_full entries_full : OperationRule

-- 8 for keys and neighbours, 9 for a full panel
abbrev pub operation_fault : OperationRule → OperationFault
operation_fault key_present = key_rule
operation_fault key_absent = key_rule
operation_fault neighbour_absent = key_rule
operation_fault bindings_full = projection_full
operation_fault availabilities_full = projection_full
operation_fault entries_full = projection_full

-- the word of each rule
abbrev pub operation_word : OperationRule → List ℕ
operation_word key_present = ascii "key-present"
operation_word key_absent = ascii "key-absent"
operation_word neighbour_absent = ascii "neighbour-absent"
operation_word bindings_full = ascii "bindings-full"
operation_word availabilities_full = ascii "availabilities-full"
operation_word entries_full = ascii "entries-full"

-- the rule that an operation breaks, of one that fails; whether it fails is told by `apply_operation`
unfoldable pub rule_of : Projection → Operation → OperationRule
rule_of p (set_binding node slot v) = bindings_full
rule_of p (set_availability node a) = availabilities_full
rule_of p (insert c k before v) = if contains c k p.entries then key_present else if contains_neighbour c before p.entries then entries_full else neighbour_absent
rule_of p (update c k v) = key_absent
rule_of p (remove c k) = key_absent
rule_of p (move c k before) = if contains c k p.entries then neighbour_absent else key_absent

-- what each rule says of the operation and the projection, as a statement
pub data Breaks (p : Projection) : Operation → OperationRule → Type 0 where
  adds_binding : {node slot : ℕ} {v : Value} (mark : ℕ) → projection_bindings < length (upsert binding_key (record { node = node; slot = slot; mark = mark; value = v }) p.bindings) → Breaks p (set_binding node slot v) bindings_full
  adds_availability : {node : ℕ} {a : Availability} (mark : ℕ) → projection_availabilities < length (upsert availability_key (record { node = node; mark = mark; availability = a }) p.availabilities) → Breaks p (set_availability node a) availabilities_full
  inserts_present : {c k : ℕ} {before : Option ℕ} {v : Value} → contains c k p.entries ≡ true → Breaks p (insert c k before v) key_present
  inserts_before_absent : {c k : ℕ} {before : Option ℕ} {v : Value} → contains c k p.entries ≡ false → contains_neighbour c before p.entries ≡ false → Breaks p (insert c k before v) neighbour_absent
  inserts_into_full : {c k : ℕ} {before : Option ℕ} {v : Value} → contains c k p.entries ≡ false → contains_neighbour c before p.entries ≡ true → projection_entries < suc (length p.entries) → Breaks p (insert c k before v) entries_full
  updates_absent : {c k : ℕ} {v : Value} → contains c k p.entries ≡ false → Breaks p (update c k v) key_absent
  removes_absent : {c k : ℕ} → contains c k p.entries ≡ false → Breaks p (remove c k) key_absent
  moves_absent : {c k : ℕ} {before : Option ℕ} → contains c k p.entries ≡ false → Breaks p (move c k before) key_absent
  moves_before_absent : {c k : ℕ} {before : Option ℕ} → contains c k p.entries ≡ true → contains_neighbour c before (remove_entry c k p.entries) ≡ false → Breaks p (move c k before) neighbour_absent
