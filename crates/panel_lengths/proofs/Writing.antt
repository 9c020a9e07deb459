-- One run after the other is written as a row behind those that are there.
use Prim.Native.Nat.{ℕ, suc, ◌+◌, ◌-◌, ◌*◌, ◌≤◌, ◌<◌}
use mathlib.Core.Path.{◌≡◌, refl, sym, ap, ap₂, subst, ◌∙◌}
use mathlib.Core.Bool.{Bool}
use mathlib.Core.List.{List, [], ◌∷◌, ◌++◌, map, map-append, append-nil, append_assoc}
use native.Mathlib.Omega.{arith}
use lib.ListN.{length, take, drop, length-append, length-map, drop_of_length-le}
use lib.Seq.{take_all}
use Rattle.spec_lists.proofs.BytesLaws.{length_little_endian}
use Rattle.spec_patch.specs.Sizes.{projection_entries}
use Rattle.spec_lengths.specs.Lengths.{CollectionLength, length_record}
use Rattle.bytes_records.specs.Moves.{zeros}
use Rattle.bytes_records.specs.Positions.{insert_at}
use Rattle.bytes_records.specs.Table.{Wide, HoldsRows, can_insert, Changed}
use Rattle.bytes_records.specs.TableLaws.{holds_none, can_insert_lem}
use Rattle.panel_rows.specs.Rows.{id_width, length_width, length_row, field_at}
use Rattle.panel_plan.specs.PlanRows.{planned_entry_width}
use Rattle.panel_lengths.specs.Runs.{runs, leading, collections_from}
use Rattle.panel_lengths.specs.RunsLaws.{run_within, next_run}

-- the runs before row i have their rows, which are so many
pub record RunsWritten (plan : List ℕ) (count rows i : ℕ) (to : List ℕ) : Type 0 where
  pub written : List CollectionLength
  pub few : rows ≤ i
  pub within : i ≤ count
  pub room : count * length_width ≤ length to
  pub table : HoldsRows length_width rows to (map length_row written)
  pub all : written ++ runs (collections_from i (count - i) plan) ≡ runs (collections_from 0 count plan)

module _ (plan : List ℕ) (count : ℕ) where
  pub none_written : {to : List ℕ} (n : ℕ) → count * length_width ≤ length to → to ≡ zeros n → RunsWritten plan count 0 0 to
  none_written n room e =
      let all : count - 0 ≡ count = omega arith in
      record {
        written = [];
        few = omega arith;
        within = omega arith;
        room = room;
        table = subst (λ (t : List ℕ). HoldsRows length_width 0 t []) (sym e) (holds_none length_width n);
        all = ap (λ (n : ℕ). runs (collections_from 0 n plan)) all;
      }

  module _ (rows i : ℕ) {to : List ℕ} (w : RunsWritten plan count rows i to) where
    -- a row behind the last
    inserted_last : (row : List ℕ) → insert_at rows row (map length_row w.written) ≡ map length_row w.written ++ row ∷ []
    inserted_last row =
        let l = map length_row w.written in
        let none : length l ≤ rows = omega (arith, w.table.counted) in
        ap₂ (λ (a b : List (List ℕ)). a ++ row ∷ b) (take_all rows l none) (drop_of_length-le l none)

    module _ (below : i < count) (small : count ≤ projection_entries) (end : ℕ)
        (is : end ≡ i + 1 + leading (field_at (i * planned_entry_width) id_width plan) (collections_from (i + 1) (count - (i + 1)) plan)) where
      abbrev length_of : CollectionLength
      length_of = length_record (field_at (i * planned_entry_width) id_width plan) (end - i)

      pub one_written : {row exit : List ℕ} {answer : Bool} → row ≡ length_row length_of → length exit ≡ length to
          → Changed length_width rows (rows + 1) (insert_at rows row) (can_insert (length to) length_width rows rows row) to exit answer → RunsWritten plan count (rows + 1) end exit
      unfolding length_row
      one_written {row} {exit} e same change =
          let wide : length row ≡ length_width = ap length e ∙ simp (length-append, length_little_endian) in
          let can = can_insert_lem w.table rows row (omega arith) wide (omega (arith, w.room, w.few)) in
          let made = change.made (change.told ∙ can) (map length_row w.written) w.table in
          record {
            written = w.written ++ length_of ∷ [];
            few = omega (arith, w.few, (run_within plan count i below end is).0);
            within = (run_within plan count i below end is).1;
            room = omega (arith, same, w.room);
            table = subst (HoldsRows length_width (rows + 1) exit) (inserted_last row ∙ ap (λ (r : List ℕ). map length_row w.written ++ r ∷ []) e ∙ sym (map-append length_row w.written (length_of ∷ []))) made;
            all = append_assoc w.written (length_of ∷ []) (runs (collections_from end (count - end) plan)) ∙ ap (λ (l : List CollectionLength). w.written ++ l) (sym (next_run plan count i below end is)) ∙ w.all;
          }

    pub all_written : count ≤ i → HoldsRows length_width (length (runs (collections_from 0 count plan))) to (map length_row (runs (collections_from 0 count plan)))
    unfolding runs collections_from
    all_written past =
        let none : count - i ≡ 0 = omega arith in
        let is : w.written ≡ runs (collections_from 0 count plan) = sym (append-nil w.written) ∙ ap (λ (n : ℕ). w.written ++ runs (collections_from i n plan)) (sym none) ∙ w.all in
        let many : rows ≡ length w.written = sym w.table.counted ∙ length-map w.written length_row in
        subst (λ (l : List CollectionLength). HoldsRows length_width (length l) to (map length_row l)) is (subst (λ (n : ℕ). HoldsRows length_width n to (map length_row w.written)) many w.table)
