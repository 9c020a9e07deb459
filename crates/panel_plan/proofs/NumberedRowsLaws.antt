-- Rows that are numbered are the rows of the plan that a batch starts from.
use Rattle.std.specs.Prelude.{ℕ, suc, ◌+◌, ◌*◌, ◌≤◌, ◌<◌, ◌≡◌, length, take}
use Rattle.std.proofs.Math.Path.{refl, ap₂}
use Rattle.std.proofs.Common.{sym, ap, ◌∙◌, subst, mul-le-mul_right, le_of_mul-le-mul_right, arith, length-append, take_at}
use mathlib.Core.List.{List, [], ◌∷◌, ◌++◌, map}
use Rattle.spec_lists.proofs.BytesLaws.{length_little_endian}
use Rattle.spec_patch.specs.Patch.{Value}
use Rattle.spec_patch.specs.Encode.{u32, u64}
use Rattle.spec_projection.specs.Projection.{Binding, Entry}
use Rattle.bytes_records.specs.Table.{HoldsRows}
use Rattle.bytes_records.specs.TableLaws.{rows_fit}
use Rattle.panel_rows.specs.Rows.{binding_value_at, entry_value_at, padded, binding_row, entry_row}
use Rattle.panel_rows.specs.RowsLaws.{regroup}
use Rattle.local_projection_state.specs.Stores.{Stored}
use Rattle.panel_plan.specs.Plan.{old, numbered, binding_with, entry_with}
use Rattle.panel_plan.specs.PlanRows.{source_width, planned_binding_row, planned_entry_row}
use Rattle.panel_plan.specs.NumberedRows.{numbered_row, numbered_rows}

-- three fields, and the number behind them
front_numbered : (n i : ℕ) (a b c value : List ℕ) → length (a ++ (b ++ c)) ≡ n → numbered_row n i (a ++ (b ++ (c ++ value))) ≡ a ++ (b ++ (c ++ u64 i))
unfolding numbered_row
front_numbered n i a b c value long = ap (λ (l : List ℕ). take n l ++ u64 i) (sym (regroup a b c value)) ∙ rw (take_at (a ++ (b ++ c)) value n long) (regroup a b c (u64 i))

pub binding_numbered : (i : ℕ) (b : Binding) → numbered_row binding_value_at i (binding_row b) ≡ planned_binding_row (binding_with b (old i))
unfolding binding_row planned_binding_row binding_with old
binding_numbered i b = front_numbered binding_value_at i (u64 b.node) (u32 b.slot) (u64 b.mark) (padded b.value) (simp (length-append, length_little_endian))

pub entry_numbered : (i : ℕ) (e : Entry) → numbered_row entry_value_at i (entry_row e) ≡ planned_entry_row (entry_with e (old i))
unfolding entry_row planned_entry_row entry_with old
entry_numbered i e = front_numbered entry_value_at i (u64 e.collection) (u64 e.key) (u64 e.mark) (padded e.value) (simp (length-append, length_little_endian))

module _ {A : Type 0} (row planned : A → List ℕ) (put : A → Value → A) (front : ℕ) (each : (i : ℕ) (x : A) → numbered_row front i (row x) ≡ planned (put x (old i))) where
  rows_numbered : (i : ℕ) (l : List A) → numbered_rows front i (map row l) ≡ map planned (numbered put i l)
  unfolding numbered_rows numbered
  rows_numbered i [] = refl
  rows_numbered i (x ∷ l) = ap₂ ◌∷◌ (each i x) (rows_numbered (suc i) l)

  -- a table of the old rows, numbered in one that has no rows, stores the plan
  pub stored_numbered : (width capacity n : ℕ) {from to exit : List ℕ} (l : List A) → 0 < width → front ≤ width → length exit ≡ length to
      → ((rows : List (List ℕ)) → front ≤ width → HoldsRows width n from rows → HoldsRows (front + source_width) 0 to [] → n * (front + source_width) ≤ length to → HoldsRows (front + source_width) n exit (numbered_rows front 0 rows))
      → Stored row width capacity n from l → Stored planned (front + source_width) capacity 0 to [] → Stored planned (front + source_width) capacity n exit (numbered put 0 l)
  stored_numbered width capacity n {from} {to} {exit} l some wide same made s none =
      let few : n ≤ capacity = le_of_mul-le-mul_right (rw s.size at (rows_fit s.rows)) some in
      let room : n * (front + source_width) ≤ capacity * (front + source_width) = mul-le-mul_right (front + source_width) few in
      record {
        size = same ∙ none.size;
        rows = subst (HoldsRows (front + source_width) n exit) (rows_numbered 0 l) (made (map row l) wide s.rows none.rows (omega (arith, none.size)));
      }
