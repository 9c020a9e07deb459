-- Searches in a table of entries see the entries' ids, and a plan's rows and those of a projection are such rows.
use Rattle.std.specs.Prelude.{ℕ, ◌≤◌, ◌≡◌, refl, ◌&&◌, List, [], ◌∷◌, ◌++◌, map}
use Rattle.std.proofs.Math.Path.{ap, ap₂}
use Rattle.std.proofs.Common.{arith, take_at, drop_at}
use Rattle.std.proofs.Math.Dec.{ltb, eqb}
use Rattle.spec_lists.specs.Lists.{All}
use Rattle.spec_lists.proofs.BytesLaws.{length_little_endian, number_of_little_endian}
use Rattle.spec_patch.specs.Encode.{u64}
use Rattle.spec_projection.specs.Projection.{Entry}
use Rattle.spec_projection.specs.Entries.{is_entry, is_later}
use Rattle.spec_projection.specs.Valid.{Behind, Grouped, FitsEntry}
use Rattle.bytes_records.specs.Search.{first_row_number, second_number, is_above, is_pair, Rising}
use Rattle.panel_rows.specs.Rows.{padded, entry_row}
use Rattle.panel_plan.specs.PlanRows.{source_number, planned_entry_row}
use Rattle.panel_entries.specs.EntryRows.{KeyedRow}

pub stored_keyed : KeyedRow entry_row
unfolding entry_row
stored_keyed = record { behind = λ e. u64 e.mark ++ padded e.value; is = λ e. refl }

pub planned_keyed : KeyedRow planned_entry_row
unfolding planned_entry_row
planned_keyed = record { behind = λ e. u64 e.mark ++ u64 (source_number e.value); is = λ e. refl }

module _ {row : Entry → List ℕ} (keyed : KeyedRow row) where
  -- the numbers that a row begins with
  module _ (e : Entry) (h : FitsEntry e) where
    entry_collection : first_row_number (row e) ≡ e.collection
    entry_collection = rw (keyed.is e, take_at _ _ _ (length_little_endian 8 e.collection), number_of_little_endian 8 e.collection h.collection)

    entry_key : second_number (row e) ≡ e.key
    entry_key = rw (keyed.is e, drop_at _ _ _ (length_little_endian 8 e.collection), take_at _ _ _ (length_little_endian 8 e.key), number_of_little_endian 8 e.key h.key)

  pub entry_pair : (c k : ℕ) (e : Entry) → FitsEntry e → is_pair c k (row e) ≡ is_entry c k e
  unfolding is_entry
  entry_pair c k e h = ap₂ (λ x y. eqb x c && eqb y k) (entry_collection e h) (entry_key e h)

  pub entry_above : (c : ℕ) (e : Entry) → FitsEntry e → is_above c (row e) ≡ is_later c e
  unfolding is_later
  entry_above c e h = ap (λ x. ltb c x) (entry_collection e h)

  -- rows of grouped entries rise by their collections
  behind_rows : (x : Entry) → FitsEntry x → (es : List Entry) → All FitsEntry es → All (Behind x) es → All (λ later. first_row_number (row x) ≤ first_row_number later) (map row es)
  behind_rows x h [] fit behind = tt
  behind_rows x h (e ∷ es) fit behind =
      (omega (arith, entry_collection x h, entry_collection e fit.0, behind.0.collection), behind_rows x h es fit.1 behind.1)

  pub entries_rising : (es : List Entry) → All FitsEntry es → Grouped es → Rising (map row es)
  entries_rising [] fit grouped = tt
  entries_rising (e ∷ es) fit grouped = (behind_rows e fit.0 es fit.1 grouped.0, entries_rising es fit.1 grouped.1)
