-- When the lengths are written, and that they are those of the plan's collections.
use Rattle.std.specs.Prelude.{ℕ, ◌-◌, ◌*◌, ◌≤◌, ◌<◌, max, ◌≡◌, refl, true, false, drop}
use Rattle.std.proofs.Common.{sym, ◌∙◌, arith}
use Rattle.std.proofs.Math.Path.{ap}
use mathlib.Core.List.{List, ◌++◌, map, flatten}
use Rattle.std.proofs.Math.Nat.{le-max_right}
use borrow.Author.Tests.{le-leb, lt-leb, eq-eqb, ne_eqb}
use Rattle.std.proofs.Math.ListN.{length, length-append}
use Rattle.spec_patch.specs.Sizes.{projection_entries}
use Rattle.spec_projection.specs.Projection.{Entry, Projection}
use Rattle.spec_projection.specs.Valid.{Valid}
use Rattle.spec_lengths.specs.Lengths.{lengths_in, collection_lengths}
use Rattle.bytes_records.specs.Moves.{zeros}
use Rattle.bytes_records.specs.MovesLaws.{length_zeros}
use Rattle.bytes_records.specs.Table.{HoldsRows, table_bytes}
use Rattle.panel_rows.specs.Rows.{length_width, length_bytes, length_row}
use Rattle.local_projection_state.specs.Stores.{StoredLengths}
use Rattle.panel_plan.specs.PlanRows.{PlannedEntries}
use Rattle.panel_writing.specs.Writing.{ClearBehind}
use Rattle.panel_writing.specs.WritingLaws.{zeros_behind, clear_behind_more}
use Rattle.panel_lengths.specs.Runs.{runs, collections_from, can_write_lengths, written_lengths}
use Rattle.panel_lengths.specs.RunsLaws.{runs_lengths}
use Rattle.panel_lengths.specs.LengthRowsLaws.{planned_collections}

module _ (count used : ℕ) (to : List ℕ) where
  pub lengths_can_write : count ≤ projection_entries → used ≤ projection_entries → length to ≡ length_bytes → can_write_lengths count used to ≡ true
  unfolding can_write_lengths
  lengths_can_write few before size = rw (le-leb count projection_entries few, le-leb used projection_entries before, eq-eqb (length to) length_bytes size)

  pub many_rows : projection_entries < count → can_write_lengths count used to ≡ false
  unfolding can_write_lengths
  many_rows many = rw (lt-leb count projection_entries many)

  pub many_used : count ≤ projection_entries → projection_entries < used → can_write_lengths count used to ≡ false
  unfolding can_write_lengths
  many_used few many = rw (le-leb count projection_entries few, lt-leb used projection_entries many)

  pub other_lengths_table : count ≤ projection_entries → used ≤ projection_entries → (length to ≡ length_bytes → ⊥) → can_write_lengths count used to ≡ false
  unfolding can_write_lengths
  other_lengths_table few before other = rw (le-leb count projection_entries few, le-leb used projection_entries before, ne_eqb (length to) length_bytes other)

module _ (count used : ℕ) (plan to : List ℕ) where
  abbrev places : ℕ
  places = max count used * length_width

  abbrev rows : List (List ℕ)
  rows = map length_row (runs (collections_from 0 count plan))

  pub left : can_write_lengths count used to ≡ false → written_lengths count used plan to ≡ to
  unfolding written_lengths
  left e = rw e

  pub written : can_write_lengths count used to ≡ true → written_lengths count used plan to ≡ table_bytes places rows ++ drop places to
  unfolding written_lengths
  written e = rw e

  -- what is written stores the runs, where nothing stands behind the places that were used
  pub written_lengths_stored : can_write_lengths count used to ≡ true → places ≤ length to → length to ≡ length_bytes → ClearBehind used length_width to
      → {part : List ℕ} → length part ≡ places → HoldsRows length_width (length (runs (collections_from 0 count plan))) part rows → StoredLengths (written_lengths count used plan to) (runs (collections_from 0 count plan))
  unfolding table_bytes
  written_lengths_stored can inside size clear {part} long held =
      let few : length (flatten rows) ≤ places = omega (arith, long, ap length held.bytes ∙ length-append (flatten rows) _, length_zeros (length part - length (flatten rows))) in
      let whole : written_lengths count used plan to ≡ table_bytes (length to) rows = written can ∙ zeros_behind rows places to few inside (clear_behind_more used (max count used) length_width to (le-max_right count used) inside clear) in
      let all : length (written_lengths count used plan to) ≡ length to = ap length whole ∙ length-append (flatten rows) (zeros (length to - length (flatten rows))) ∙ omega (arith, length_zeros (length to - length (flatten rows))) in
      record { size = all ∙ size; rows = record { wide = held.wide; counted = held.counted; bytes = whole ∙ ap (λ (n : ℕ). table_bytes n rows) (sym all) } }

-- the runs of a plan's rows are the lengths of its collections
pub plan_lengths : (count : ℕ) (plan : List ℕ) (p : Projection) → PlannedEntries count plan p.entries → Valid p → runs (collections_from 0 count plan) ≡ collection_lengths p
unfolding collection_lengths
plan_lengths count plan p s v = ap runs (planned_collections count plan p.entries s v.fit_entries) ∙ runs_lengths p.entries v.entries
