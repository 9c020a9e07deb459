-- Dropping the marks commutes with every operation and so with every run: marks decide nothing, and all else is as it would be without them.
use Rattle.std.specs.Prelude.{ℕ, ◌≡◌, refl, List, [], ◌∷◌, map}
use Rattle.std.proofs.Common.{sym, ap, ap₂, ◌∙◌, arith}
use Rattle.std.proofs.lemmas.List.{length-map}
use Rattle.spec_patch.specs.Patch.{Operation, set_binding, set_availability, insert, update, remove, move}
use Rattle.spec_projection.specs.Projection.{Projection, binding_key, availability_key}
use Rattle.spec_projection.specs.FirstMatch.{find_first}
use Rattle.spec_projection.specs.Entries.{is_entry}
use Rattle.spec_projection.specs.Apply.{Outcome, done, stopped, ReplayStep, step_of, step_operations, apply_move, apply_operation, apply_step, and_then, apply_steps}
use Rattle.spec_projection.specs.Valid.{FitsBinding, FitsNodeAvailability, FitsEntry, Valid}
use Rattle.spec_projection.proofs.ValidLaws.{valid_ordered}
use Rattle.spec_projection.proofs.MapLaws.{all_image}
use Rattle.spec_projection.specs.RowMap.{map_rows, KeepsKeys}
use Rattle.spec_projection.proofs.RowMapLaws.{found_mapped, binding_mapped, availability_mapped, insert_mapped, update_mapped, remove_mapped, move_mapped, map_rows_ordered}
use Rattle.spec_projection.specs.Marks.{unmarked, without_marks, outcome_without_marks, without_patches}

pub unmarked_keeps : KeepsKeys unmarked
unfolding unmarked binding_key availability_key
unmarked_keeps = record { binding = λ b. refl; availability = λ a. refl; collection = λ e. refl; key = λ e. refl }

-- a projection that a session can hold is one without its marks too
pub unmarked_valid : (p : Projection) → Valid p → Valid (without_marks p)
unfolding without_marks map_rows unmarked
unmarked_valid p v =
    let w = map_rows_ordered unmarked unmarked_keeps p (valid_ordered p v) in
    record {
      bindings = w.bindings;
      availabilities = w.availabilities;
      entries = w.entries;
      few_bindings = rw (length-map p.bindings unmarked.binding) v.few_bindings;
      few_availabilities = rw (length-map p.availabilities unmarked.availability) v.few_availabilities;
      few_entries = rw (length-map p.entries unmarked.entry) v.few_entries;
      fit_bindings = all_image unmarked.binding FitsBinding FitsBinding (λ b f. record { node = f.node; slot = f.slot; mark = omega arith; value = f.value }) p.bindings v.fit_bindings;
      fit_availabilities = all_image unmarked.availability FitsNodeAvailability FitsNodeAvailability (λ a f. record { node = f.node; mark = omega arith }) p.availabilities v.fit_availabilities;
      fit_entries = all_image unmarked.entry FitsEntry FitsEntry (λ e f. record { collection = f.collection; key = f.key; mark = omega arith; value = f.value }) p.entries v.fit_entries;
    }

-- one operation, of whichever patch
pub operation_unmarked : (p : Projection) (id : ℕ) (o : Operation) → apply_operation (without_marks p) 0 o ≡ outcome_without_marks (apply_operation p id o)
unfolding apply_operation without_marks unmarked map_rows
operation_unmarked p id (set_binding n s v) = binding_mapped unmarked unmarked_keeps p (record { node = n; slot = s; mark = id; value = v })
operation_unmarked p id (set_availability n a) = availability_mapped unmarked unmarked_keeps p (record { node = n; mark = id; availability = a })
operation_unmarked p id (insert c k before v) = insert_mapped unmarked unmarked_keeps p before (record { collection = c; key = k; mark = id; value = v })
operation_unmarked p id (update c k v) = update_mapped unmarked unmarked_keeps p (record { collection = c; key = k; mark = id; value = v })
operation_unmarked p id (remove c k) = remove_mapped unmarked unmarked_keeps p c k
operation_unmarked p id (move c k before) =
    ap (apply_move (without_marks p) before) (found_mapped unmarked unmarked_keeps c k p.entries) ∙ move_mapped unmarked unmarked_keeps p before (find_first (is_entry c k) p.entries)

-- a run leaves, without its marks, what the same operations leave that mark nothing
pub run_unmarked : (p : Projection) (ss : List ReplayStep) → outcome_without_marks (apply_steps p ss) ≡ apply_steps (without_marks p) (without_patches ss)
unfolding apply_steps apply_step without_patches without_marks
run_unmarked p [] = refl
run_unmarked p (s ∷ ss) =
    go (apply_operation p s.patch s.operation) (λ q. run_unmarked q ss)
    ∙ ap (λ x. and_then x (λ q. apply_steps q (without_patches ss))) (sym (operation_unmarked p s.patch s.operation))
  where
    go : (x : Outcome) → ((q : Projection) → outcome_without_marks (apply_steps q ss) ≡ apply_steps (without_marks q) (without_patches ss))
        → outcome_without_marks (and_then x (λ q. apply_steps q ss)) ≡ and_then (outcome_without_marks x) (λ q. apply_steps q (without_patches ss))
    go (done q) later = later q
    go (stopped fault) later = refl

-- so two runs of the same operations, of whichever patches, from projections that differ in marks alone end alike without marks
pub marks_decide_nothing : (p q : Projection) (left right : List ReplayStep) → without_marks p ≡ without_marks q → step_operations left ≡ step_operations right
    → outcome_without_marks (apply_steps p left) ≡ outcome_without_marks (apply_steps q right)
unfolding without_patches
marks_decide_nothing p q left right e f =
    run_unmarked p left ∙ ap₂ (λ (r : Projection) (os : List Operation). apply_steps r (map (step_of 0) os)) e f ∙ sym (run_unmarked q right)
