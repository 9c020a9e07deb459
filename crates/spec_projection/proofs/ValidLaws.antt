-- The empty projection is valid, and every operation that applies leaves a valid one.
use Rattle.std.specs.Prelude.{ℕ, ◌≤◌, ◌≡◌, length}
use Rattle.std.proofs.Common.{sym, subst, arith}
use mathlib.Core.List.{List, [], ◌∷◌, map, flat_map}
use Rattle.std.proofs.Math.Option.{Option}
use Rattle.spec_lists.specs.Lists.{All}
use Rattle.spec_lists.proofs.OrderLaws.{upsert_ascending, upsert_all}
use Rattle.spec_lists.proofs.ListLaws.{all_append}
use Rattle.spec_patch.specs.Edition.{Edition}
use Rattle.spec_patch.specs.Sizes.{projection_entries}
use Rattle.spec_patch.specs.Fits.{U64, OperationHolds, FitsOperation, FitsPatch}
use Rattle.spec_patch.specs.Patch.{Operation, set_binding, set_availability, insert, update, remove, move, Patch}
use Rattle.spec_projection.specs.Projection.{Binding, NodeAvailability, Entry, Projection, empty, binding_key, availability_key}
use Rattle.spec_projection.specs.FirstMatch.{find_first}
use Rattle.spec_projection.proofs.FirstMatchLaws.{find_first_all}
use Rattle.spec_projection.specs.Entries.{is_entry, insert_entry, replace_entry, remove_entry}
use Rattle.spec_projection.proofs.EntriesLaws.{insert_entry_grouped, insert_entry_all, insert_entry_length, replace_entry_grouped, replace_entry_all, replace_entry_length, remove_entry_grouped, remove_entry_gone, remove_entry_all, remove_entry_length, found_contains}
use Rattle.spec_projection.specs.Apply.{done, with_bindings, with_availabilities, with_entries, apply_binding, apply_availability, apply_insert, apply_update, apply_remove, apply_move, apply_operation, ReplayStep, step_of, patch_steps, replay_steps, apply_step, apply_steps}
use Rattle.spec_projection.proofs.ApplyLaws.{done_injective, and_then_done}
use Rattle.spec_projection.proofs.OperationLaws.{applied_binding, applied_availability, applied_insert, applied_update, applied_remove, applied_move}
use Rattle.spec_projection.specs.Valid.{Grouped, FitsBinding, FitsNodeAvailability, FitsEntry, Ordered, Valid, FitsStep}

pub empty_valid : Valid empty
unfolding empty
empty_valid = record {
  bindings = tt;
  availabilities = tt;
  entries = tt;
  few_bindings = omega arith;
  few_availabilities = omega arith;
  few_entries = omega arith;
  fit_bindings = tt;
  fit_availabilities = tt;
  fit_entries = tt;
}

-- ---- each operation

apply_binding_valid : (p : Projection) (b : Binding) (q : Projection) → FitsBinding b → Valid p → apply_binding p b ≡ done q → Valid q
unfolding with_bindings
apply_binding_valid p b q f v e =
    let h = applied_binding p b q e in
    subst Valid (sym h.1) (record {
      bindings = upsert_ascending binding_key b p.bindings v.bindings;
      availabilities = v.availabilities;
      entries = v.entries;
      few_bindings = h.0;
      few_availabilities = v.few_availabilities;
      few_entries = v.few_entries;
      fit_bindings = upsert_all binding_key FitsBinding b p.bindings f v.fit_bindings;
      fit_availabilities = v.fit_availabilities;
      fit_entries = v.fit_entries;
    })

apply_availability_valid : (p : Projection) (a : NodeAvailability) (q : Projection) → FitsNodeAvailability a → Valid p → apply_availability p a ≡ done q → Valid q
unfolding with_availabilities
apply_availability_valid p a q f v e =
    let h = applied_availability p a q e in
    subst Valid (sym h.1) (record {
      bindings = v.bindings;
      availabilities = upsert_ascending availability_key a p.availabilities v.availabilities;
      entries = v.entries;
      few_bindings = v.few_bindings;
      few_availabilities = h.0;
      few_entries = v.few_entries;
      fit_bindings = v.fit_bindings;
      fit_availabilities = upsert_all availability_key FitsNodeAvailability a p.availabilities f v.fit_availabilities;
      fit_entries = v.fit_entries;
    })

with_entries_valid : (p : Projection) (es : List Entry) → Valid p → Grouped es → length es ≤ projection_entries → All FitsEntry es → Valid (with_entries p es)
unfolding with_entries
with_entries_valid p es v g l f = record {
  bindings = v.bindings;
  availabilities = v.availabilities;
  entries = g;
  few_bindings = v.few_bindings;
  few_availabilities = v.few_availabilities;
  few_entries = l;
  fit_bindings = v.fit_bindings;
  fit_availabilities = v.fit_availabilities;
  fit_entries = f;
}

apply_insert_valid : (p : Projection) (before : Option ℕ) (e : Entry) (q : Projection) → FitsEntry e → Valid p → apply_insert p before e ≡ done q → Valid q
apply_insert_valid p before e q f v h =
    let a = applied_insert p before e q h in
    subst Valid (sym a.result)
    (with_entries_valid p (insert_entry before e p.entries) v (insert_entry_grouped before e p.entries a.absent a.neighbour v.entries) a.room
    (insert_entry_all FitsEntry before e p.entries f v.fit_entries))

apply_update_valid : (p : Projection) (e : Entry) (q : Projection) → FitsEntry e → Valid p → apply_update p e ≡ done q → Valid q
apply_update_valid p e q f v h =
    subst Valid (sym (applied_update p e q h).1)
    (with_entries_valid p (replace_entry e p.entries) v (replace_entry_grouped e p.entries v.entries) (omega (arith, replace_entry_length e p.entries, v.few_entries))
    (replace_entry_all FitsEntry e p.entries f v.fit_entries))

apply_remove_valid : (p : Projection) (c k : ℕ) (q : Projection) → Valid p → apply_remove p c k ≡ done q → Valid q
apply_remove_valid p c k q v h =
    let a = applied_remove p c k q h in
    subst Valid (sym a.1)
    (with_entries_valid p (remove_entry c k p.entries) v (remove_entry_grouped c k p.entries v.entries) (omega (arith, remove_entry_length c k p.entries a.0, v.few_entries))
    (remove_entry_all FitsEntry c k p.entries v.fit_entries))

-- the entry that moves is stored already
apply_move_valid : (p : Projection) (c k : ℕ) (before : Option ℕ) (q : Projection) → Valid p → apply_move p before (find_first (is_entry c k) p.entries) ≡ done q → Valid q
apply_move_valid p c k before q v h =
    let a = applied_move p before (find_first (is_entry c k) p.entries) q h in
    let e = a.entry in
    let rest = remove_entry e.collection e.key p.entries in
    let ordered = remove_entry_grouped e.collection e.key p.entries v.entries in
    let stored = found_contains c k p.entries e a.found_entry in
    subst Valid (sym a.result)
    (with_entries_valid p (insert_entry before e rest) v
    (insert_entry_grouped before e rest (remove_entry_gone e.collection e.key p.entries v.entries) a.neighbour ordered)
    (omega (arith, insert_entry_length before e rest, remove_entry_length e.collection e.key p.entries stored, v.few_entries))
    (insert_entry_all FitsEntry before e rest (find_first_all (is_entry c k) FitsEntry p.entries e a.found_entry v.fit_entries)
    (remove_entry_all FitsEntry e.collection e.key p.entries v.fit_entries)))

pub apply_operation_valid : (ed : Edition) (p : Projection) (id : ℕ) (o : Operation) (q : Projection) → U64 id → FitsOperation ed o → Valid p → apply_operation p id o ≡ done q → Valid q
unfolding apply_operation OperationHolds
apply_operation_valid ed p id (set_binding n s x) q u f v e = apply_binding_valid p _ q (record { node = f.0; slot = f.1.0; mark = u; value = f.1.1.storable }) v e
apply_operation_valid ed p id (set_availability n a) q u f v e = apply_availability_valid p _ q (record { node = f; mark = u }) v e
apply_operation_valid ed p id (insert c k before x) q u f v e = apply_insert_valid p before _ q (record { collection = f.0; key = f.1.0; mark = u; value = f.1.1.1.storable }) v e
apply_operation_valid ed p id (update c k x) q u f v e = apply_update_valid p _ q (record { collection = f.0; key = f.1.0; mark = u; value = f.1.1.storable }) v e
apply_operation_valid ed p id (remove c k) q u f v e = apply_remove_valid p c k q v e
apply_operation_valid ed p id (move c k before) q u f v e = apply_move_valid p c k before q v e

-- ---- all steps

pub apply_step_valid : (ed : Edition) (p : Projection) (s : ReplayStep) (q : Projection) → FitsStep ed s → Valid p → apply_step p s ≡ done q → Valid q
unfolding apply_step
apply_step_valid ed p s q f v e = apply_operation_valid ed p s.patch s.operation q f.patch f.operation v e

pub apply_steps_valid : (ed : Edition) (p : Projection) (ss : List ReplayStep) (q : Projection) → All (FitsStep ed) ss → Valid p → apply_steps p ss ≡ done q → Valid q
unfolding apply_steps
apply_steps_valid ed p [] q f v e = subst Valid (done_injective e) v
apply_steps_valid ed p (s ∷ ss) q f v e =
    let (r, first, others) = and_then_done (apply_step p s) (λ r. apply_steps r ss) q e in
    apply_steps_valid ed r ss q f.1 (apply_step_valid ed p s r f.0 v first) others

-- the steps of patches that fit, fit
pub replay_steps_fit : (ed : Edition) (ps : List Patch) → All (FitsPatch ed) ps → All (FitsStep ed) (replay_steps ps)
unfolding replay_steps patch_steps flat_map
replay_steps_fit ed [] h = tt
replay_steps_fit ed (p ∷ ps) h = all_append (FitsStep ed) (patch_steps p) (replay_steps ps) (steps_fit _ h.0.envelope.id p.operations h.0.operations) (replay_steps_fit ed ps h.1)
  where
    steps_fit : (id : ℕ) → U64 id → (os : List Operation) → All (FitsOperation ed) os → All (FitsStep ed) (map (step_of id) os)
    steps_fit id u [] k = tt
    steps_fit id u (o ∷ os) k = (record { patch = u; operation = k.0 }, steps_fit id u os k.1)

-- ---- the stored order, whatever the operation's numbers

pub valid_ordered : (p : Projection) → Valid p → Ordered p
valid_ordered p v = record { bindings = v.bindings; availabilities = v.availabilities; entries = v.entries }

with_entries_ordered : (p : Projection) (es : List Entry) → Ordered p → Grouped es → Ordered (with_entries p es)
unfolding with_entries
with_entries_ordered p es w g = record { bindings = w.bindings; availabilities = w.availabilities; entries = g }

pub apply_operation_ordered : (p : Projection) (id : ℕ) (o : Operation) (q : Projection) → Ordered p → apply_operation p id o ≡ done q → Ordered q
unfolding apply_operation with_bindings with_availabilities
apply_operation_ordered p id (set_binding n s x) q w e =
    let b : Binding = record { node = n; slot = s; mark = id; value = x } in
    subst Ordered (sym (applied_binding p b q e).1) (record { bindings = upsert_ascending binding_key b p.bindings w.bindings; availabilities = w.availabilities; entries = w.entries })
apply_operation_ordered p id (set_availability n x) q w e =
    let a : NodeAvailability = record { node = n; mark = id; availability = x } in
    subst Ordered (sym (applied_availability p a q e).1) (record { bindings = w.bindings; availabilities = upsert_ascending availability_key a p.availabilities w.availabilities; entries = w.entries })
apply_operation_ordered p id (insert c k before x) q w h =
    let e : Entry = record { collection = c; key = k; mark = id; value = x } in
    let a = applied_insert p before e q h in
    subst Ordered (sym a.result) (with_entries_ordered p _ w (insert_entry_grouped before e p.entries a.absent a.neighbour w.entries))
apply_operation_ordered p id (update c k x) q w h =
    let e : Entry = record { collection = c; key = k; mark = id; value = x } in
    subst Ordered (sym (applied_update p e q h).1) (with_entries_ordered p _ w (replace_entry_grouped e p.entries w.entries))
apply_operation_ordered p id (remove c k) q w h =
    subst Ordered (sym (applied_remove p c k q h).1) (with_entries_ordered p _ w (remove_entry_grouped c k p.entries w.entries))
apply_operation_ordered p id (move c k before) q w h =
    let a = applied_move p before (find_first (is_entry c k) p.entries) q h in
    let e = a.entry in
    let rest = remove_entry e.collection e.key p.entries in
    subst Ordered (sym a.result)
    (with_entries_ordered p _ w
    (insert_entry_grouped before e rest (remove_entry_gone e.collection e.key p.entries w.entries) a.neighbour (remove_entry_grouped e.collection e.key p.entries w.entries)))
