-- The tables that a plan is written as store the projection that it resolves to.
use Rattle.std.specs.Prelude.{ℕ, ◌≤◌, ◌≡◌, refl, List, ◌++◌, length, take, drop}
use Rattle.std.proofs.Math.Path.{sym}
use Rattle.std.proofs.Common.{arith, length-append}
use Rattle.spec_lists.specs.Lists.{All}
use Rattle.spec_lists.proofs.BytesLaws.{length_little_endian}
use Rattle.spec_patch.specs.Sizes.{projection_bindings, projection_entries}
use Rattle.spec_patch.specs.Edition.{Edition}
use Rattle.spec_patch.specs.Encode.{u32, u64}
use Rattle.spec_projection.specs.Projection.{Projection}
use Rattle.spec_projection.specs.RowMap.{map_rows}
use Rattle.spec_projection.specs.Valid.{FitsBinding, FitsEntry, Valid}
use Rattle.bytes_records.specs.Table.{table_bytes}
use Rattle.panel_rows.specs.Rows.{binding_value_at, binding_width, binding_bytes, binding_row, entry_value_at, entry_width, entry_bytes, entry_row}
use Rattle.panel_rows.specs.RowsLaws.{regroup, binding_wide, binding_tells, entry_wide, entry_tells}
use Rattle.local_projection_state.specs.Stores.{Stored}
use Rattle.panel_plan.specs.Resolved.{Resolution, resolved_binding, resolved_entry, resolving, resolved}
use Rattle.panel_plan.specs.Plan.{resolution}
use Rattle.panel_plan.specs.PlanRows.{planned_binding_row, planned_entry_row, PlannedBindings, PlannedEntries}
use Rattle.panel_plan.specs.SetValues.{value_in}
use Rattle.panel_plan.specs.Sources.{binding_front, entry_front, SourcedBinding, SourcedEntry}
use Rattle.panel_writing.specs.Writing.{new_row, rows_to, used_bytes, ClearBehind}
use Rattle.panel_writing.specs.WritingLaws.{table_resolved}

-- what the sources of a batch on p stand for
abbrev pub sources : Edition → Projection → List ℕ → Resolution
sources ed p set = resolution p (value_in ed set)

module _ (ed : Edition) (p q : Projection) (set : List ℕ) (vp : Valid p) (vq : Valid q) {n count : ℕ} {plan from : List ℕ} (used : ℕ) (to : List ℕ) where
  pub bindings_stored : Stored binding_row binding_width projection_bindings n from p.bindings → PlannedBindings count plan q.bindings → All (SourcedBinding ed p set) q.bindings → used ≤ projection_bindings → length to ≡ binding_bytes → ClearBehind used binding_width to
      → Stored binding_row binding_width projection_bindings count (table_bytes (used_bytes binding_value_at count used) (rows_to (new_row ed binding_value_at plan from set (take (used_bytes binding_value_at count used) to)) count) ++ drop (used_bytes binding_value_at count used) to) (resolved (sources ed p set) q).bindings
  unfolding binding_row planned_binding_row map_rows resolving resolved_binding resolution
  bindings_stored s t sourced fewer size clear =
      table_resolved binding_front (λ b. b.value) planned_binding_row binding_row binding_value_at (λ b. simp (length-append, length_little_endian))
      (λ b. sym (regroup (u64 b.node) (u32 b.slot) (u64 b.mark) _)) (λ b. sym (regroup (u64 b.node) (u32 b.slot) (u64 b.mark) _))
      FitsBinding binding_wide binding_tells (λ b f. f.value) (resolved_binding (sources ed p set)) (λ b. refl) (λ b f h. record { node = f.node; slot = f.slot; mark = f.mark; value = h })
      ed set p.bindings q.bindings vp.fit_bindings vq.fit_bindings (omega (arith, vp.few_bindings)) (λ b. refl) vq.few_bindings s t sourced used to fewer size clear

  pub entries_stored : Stored entry_row entry_width projection_entries n from p.entries → PlannedEntries count plan q.entries → All (SourcedEntry ed p set) q.entries → used ≤ projection_entries → length to ≡ entry_bytes → ClearBehind used entry_width to
      → Stored entry_row entry_width projection_entries count (table_bytes (used_bytes entry_value_at count used) (rows_to (new_row ed entry_value_at plan from set (take (used_bytes entry_value_at count used) to)) count) ++ drop (used_bytes entry_value_at count used) to) (resolved (sources ed p set) q).entries
  unfolding entry_row planned_entry_row map_rows resolving resolved_entry resolution
  entries_stored s t sourced fewer size clear =
      table_resolved entry_front (λ e. e.value) planned_entry_row entry_row entry_value_at (λ e. simp (length-append, length_little_endian))
      (λ e. sym (regroup (u64 e.collection) (u64 e.key) (u64 e.mark) _)) (λ e. sym (regroup (u64 e.collection) (u64 e.key) (u64 e.mark) _))
      FitsEntry entry_wide entry_tells (λ e f. f.value) (resolved_entry (sources ed p set)) (λ e. refl) (λ e f h. record { collection = f.collection; key = f.key; mark = f.mark; value = h })
      ed set p.entries q.entries vp.fit_entries vq.fit_entries vp.few_entries (λ e. refl) vq.few_entries s t sourced used to fewer size clear
