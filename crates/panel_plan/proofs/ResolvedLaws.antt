-- Applying to a plan and resolving is applying to what the plan resolves to, for done and stopped alike. Nothing is asked of the plan.
use Rattle.std.specs.Prelude.{ℕ, ◌≡◌}
use Rattle.std.proofs.Math.Path.{refl, ap}
use Rattle.std.proofs.Common.{◌∙◌}
use Rattle.spec_patch.specs.Patch.{Operation, set_binding, set_availability, insert, update, remove, move}
use Rattle.spec_projection.specs.Projection.{Projection, binding_key}
use Rattle.spec_projection.specs.FirstMatch.{find_first}
use Rattle.spec_projection.specs.Entries.{is_entry}
use Rattle.spec_projection.specs.Apply.{apply_move, apply_operation}
use Rattle.spec_projection.specs.RowMap.{map_rows, KeepsKeys}
use Rattle.spec_projection.proofs.RowMapLaws.{found_mapped, binding_mapped, availability_mapped, insert_mapped, update_mapped, remove_mapped, move_mapped}
use Rattle.panel_plan.specs.Resolved.{Resolution, resolved_binding, resolved_entry, resolving, resolved, resolved_operation, resolved_outcome}

module _ (r : Resolution) where
  pub resolving_keeps : KeepsKeys (resolving r)
  unfolding resolving resolved_binding resolved_entry binding_key
  resolving_keeps = record { binding = λ b. refl; availability = λ a. refl; collection = λ e. refl; key = λ e. refl }

  -- one operation, of whichever patch
  pub operation_resolved : (p : Projection) (id : ℕ) (o : Operation) → apply_operation (resolved r p) id (resolved_operation r o) ≡ resolved_outcome r (apply_operation p id o)
  unfolding apply_operation resolved_operation resolving resolved_binding resolved_entry map_rows
  operation_resolved p id (set_binding n s v) = binding_mapped (resolving r) resolving_keeps p (record { node = n; slot = s; mark = id; value = v })
  operation_resolved p id (set_availability n a) = availability_mapped (resolving r) resolving_keeps p (record { node = n; mark = id; availability = a })
  operation_resolved p id (insert c k before v) = insert_mapped (resolving r) resolving_keeps p before (record { collection = c; key = k; mark = id; value = v })
  operation_resolved p id (update c k v) = update_mapped (resolving r) resolving_keeps p (record { collection = c; key = k; mark = id; value = v })
  operation_resolved p id (remove c k) = remove_mapped (resolving r) resolving_keeps p c k
  operation_resolved p id (move c k before) =
      ap (apply_move (resolved r p) before) (found_mapped (resolving r) resolving_keeps c k p.entries) ∙ move_mapped (resolving r) resolving_keeps p before (find_first (is_entry c k) p.entries)
