-- The six operations on a projection, and patches applied as steps: 01, 'Projection', and step 9 of a batch.
use Rattle.std.specs.Prelude.{ℕ, not, leb, length, if◌then◌else◌}
use mathlib.Core.List.{List, [], ◌∷◌, map, flat_map}
use Rattle.std.proofs.Math.Option.{Option, none, some}
use Rattle.spec_lists.specs.Order.{upsert}
use Rattle.spec_patch.specs.Sizes.{projection_bindings, projection_availabilities, projection_entries}
use Rattle.spec_patch.specs.Patch.{Operation, set_binding, set_availability, insert, update, remove, move, Patch}
use Rattle.spec_projection.specs.Projection.{Binding, NodeAvailability, Entry, Projection, binding_key, availability_key}
use Rattle.spec_projection.specs.FirstMatch.{find_first}
use Rattle.spec_projection.specs.Entries.{is_entry, contains, contains_neighbour, insert_entry, replace_entry, remove_entry}

-- why an operation fails
pub data OperationFault : Type 0 where
  key_rule projection_full : OperationFault

-- 8 key or neighbour rule, 9 panel full
unfoldable pub operation_fault_number : OperationFault → ℕ
operation_fault_number key_rule = 8
operation_fault_number projection_full = 9

-- what applying gives: the projection afterwards, or why the first failing operation failed
pub data Outcome : Type 0 where
  done : Projection → Outcome
  stopped : OperationFault → Outcome

-- ---- the three lists of a projection, one of them changed

unfoldable pub with_bindings : Projection → List Binding → Projection
with_bindings p bs = record { bindings = bs; availabilities = p.availabilities; entries = p.entries }

unfoldable pub with_availabilities : Projection → List NodeAvailability → Projection
with_availabilities p xs = record { bindings = p.bindings; availabilities = xs; entries = p.entries }

unfoldable pub with_entries : Projection → List Entry → Projection
with_entries p es = record { bindings = p.bindings; availabilities = p.availabilities; entries = es }

-- ---- the operations

-- replaces, or adds; the 65th fails
unfoldable pub apply_binding : Projection → Binding → Outcome
apply_binding p b =
    let bs = upsert binding_key b p.bindings in
    if leb (length bs) projection_bindings then done (with_bindings p bs) else stopped projection_full

-- replaces, or adds; the 65th fails
unfoldable pub apply_availability : Projection → NodeAvailability → Outcome
apply_availability p a =
    let xs = upsert availability_key a p.availabilities in
    if leb (length xs) projection_availabilities then done (with_availabilities p xs) else stopped projection_full

-- a key that is present fails, then a named neighbour that is absent, then the 129th entry of all collections
unfoldable pub apply_insert : Projection → Option ℕ → Entry → Outcome
apply_insert p before e =
    let es = insert_entry before e p.entries in
    if contains e.collection e.key p.entries then stopped key_rule else
    if not (contains_neighbour e.collection before p.entries) then stopped key_rule else
    if leb (length es) projection_entries then done (with_entries p es) else stopped projection_full

-- needs the key, and leaves the entry in its place
unfoldable pub apply_update : Projection → Entry → Outcome
apply_update p e = if contains e.collection e.key p.entries then done (with_entries p (replace_entry e p.entries)) else stopped key_rule

-- needs the key
unfoldable pub apply_remove : Projection → ℕ → ℕ → Outcome
apply_remove p c k = if contains c k p.entries then done (with_entries p (remove_entry c k p.entries)) else stopped key_rule

-- needs the entry; takes it out, then finds the neighbour and inserts the same entry again, with its mark
unfoldable pub apply_move : Projection → Option ℕ → Option Entry → Outcome
apply_move p before none = stopped key_rule
apply_move p before (some e) =
    let rest = remove_entry e.collection e.key p.entries in
    if contains_neighbour e.collection before rest then done (with_entries p (insert_entry before e rest)) else stopped key_rule

-- one operation of the patch of that id, which marks each value that it gives
unfoldable pub apply_operation : Projection → ℕ → Operation → Outcome
apply_operation p id (set_binding n s v) = apply_binding p (record { node = n; slot = s; mark = id; value = v })
apply_operation p id (set_availability n a) = apply_availability p (record { node = n; mark = id; availability = a })
apply_operation p id (insert c k before v) = apply_insert p before (record { collection = c; key = k; mark = id; value = v })
apply_operation p id (update c k v) = apply_update p (record { collection = c; key = k; mark = id; value = v })
apply_operation p id (remove c k) = apply_remove p c k
apply_operation p id (move c k before) = apply_move p before (find_first (is_entry c k) p.entries)

-- ---- the operations of patches, in order

-- an operation, and the id of the patch that it belongs to
pub record ReplayStep : Type 0 where
  pub patch : ℕ
  pub operation : Operation

abbrev pub step_of : ℕ → Operation → ReplayStep
step_of id o = record { patch = id; operation = o }

-- the operations of steps, without the ids of their patches
abbrev pub step_operations : List ReplayStep → List Operation
step_operations ss = map (λ (s : ReplayStep). s.operation) ss

-- the steps of one patch
unfoldable pub patch_steps : Patch → List ReplayStep
patch_steps p = map (step_of p.envelope.id) p.operations

-- the steps of all patches, in order
unfoldable pub replay_steps : List Patch → List ReplayStep
replay_steps ps = flat_map patch_steps ps

-- the operations of all patches, in order: 01's target references
unfoldable pub operations_of : List Patch → List Operation
operations_of ps = flat_map (λ (p : Patch). p.operations) ps

-- one step
unfoldable pub apply_step : Projection → ReplayStep → Outcome
apply_step p s = apply_operation p s.patch s.operation

-- goes on with the projection, unless stopped
abbrev pub and_then : Outcome → (Projection → Outcome) → Outcome
and_then (done p) f = f p
and_then (stopped fault) f = stopped fault

-- all steps in order; the first that fails ends it
unfoldable pub apply_steps : Projection → List ReplayStep → Outcome
apply_steps p [] = done p
apply_steps p (s ∷ ss) = and_then (apply_step p s) (λ q. apply_steps q ss)
