-- What a set makes of the tables, and what the code answers.
use Rattle.std.specs.Prelude.{ℕ, ◌≡◌, Bool, true, ◌&&◌, List, leb, eqb, length, Result, Ok, Err}
use Rattle.spec_patch.specs.Sizes.{projection_bindings, projection_availabilities, projection_entries}
use Rattle.spec_projection.specs.Projection.{Projection}
use Rattle.spec_projection.specs.Apply.{Outcome, done, stopped}
use Rattle.spec_lengths.specs.Lengths.{collection_lengths}
use Rattle.panel_rows.specs.Rows.{binding_width, binding_bytes, availability_width, availability_bytes, entry_width, entry_bytes, length_width, length_bytes}
use Rattle.local_projection_state.specs.Stores.{StoredTables, StoredLengths}
use Rattle.local_projection_state.specs.declared.ProjectionCounts.{ProjectionCounts}
use Rattle.local_projection_state.specs.Faults.{application_fault_of}
use Rattle.panel_writing.specs.Writing.{ClearBehind}
use Rattle.panel_changes.specs.declared.SetRefusal.{SetRefusal}
use Rattle.panel_changes.specs.declared.SetRefusal.TheVariants.{Operation, Unreadable, BadTables}

-- so many bytes are the lengths of the three tables
unfoldable pub tables_fit : ℕ → ℕ → ℕ → Bool
tables_fit b a e = eqb b binding_bytes && (eqb a availability_bytes && eqb e entry_bytes)

-- each table has a place for so many rows
unfoldable pub change_counts_fit : ProjectionCounts → Bool
change_counts_fit n = leb n.bindings projection_bindings && (leb n.availabilities projection_availabilities && leb n.entries projection_entries)

pub record TableLengths (b a e : List ℕ) : Type 0 where
  pub bindings : length b ≡ binding_bytes
  pub availability : length a ≡ availability_bytes
  pub entries : length e ≡ entry_bytes

-- nothing is used of tables that are all zeros
abbrev pub none_used : ProjectionCounts
none_used = record { bindings = 0; availabilities = 0; entries = 0 }

-- the tables that are written: as long as they should be, and zero behind the rows that were used; a collection has an entry at least, so that of
-- the lengths is zero behind as many
pub record ReadyTables (used : ProjectionCounts) (b a e l : List ℕ) : Type 0 where
  pub lengths : TableLengths b a e
  pub collections : length l ≡ length_bytes
  pub few : change_counts_fit used ≡ true
  pub bindings : ClearBehind used.bindings binding_width b
  pub availabilities : ClearBehind used.availabilities availability_width a
  pub entries : ClearBehind used.entries entry_width e
  pub counted : ClearBehind used.entries length_width l

-- the tables that were written store the projection, and its collections' lengths
abbrev pub StoredAfter : ProjectionCounts → (b a e l : List ℕ) → Projection → Type 0
StoredAfter n b a e l q = StoredTables n b a e q × StoredLengths l (collection_lengths q)

-- the answer is the outcome's: with these counts the tables store the next projection, or the refusal is the fault's
abbrev pub ChangeBecame : (ProjectionCounts → Projection → Type 0) → Result ProjectionCounts SetRefusal → Outcome → Type 0
ChangeBecame Next (Ok n) (done q) = Next n q
ChangeBecame Next (Ok n) (stopped f) = ⊥
ChangeBecame Next (Err (Operation e)) (done q) = ⊥
ChangeBecame Next (Err (Operation e)) (stopped f) = application_fault_of e ≡ f
ChangeBecame Next (Err (Unreadable f)) x = ⊥
ChangeBecame Next (Err BadTables) x = ⊥

-- a set that is not applied leaves the tables that it was to be written to
abbrev pub Same : (b a e l b' a' e' l' : List ℕ) → Type 0
Same b a e l b' a' e' l' = (b' ≡ b) × ((a' ≡ a) × ((e' ≡ e) × (l' ≡ l)))

abbrev pub TablesKeptUnlessApplied : Result ProjectionCounts SetRefusal → (b a e l b' a' e' l' : List ℕ) → Type 0
TablesKeptUnlessApplied (Ok n) b a e l b' a' e' l' = Unit {0}
TablesKeptUnlessApplied (Err f) b a e l b' a' e' l' = Same b a e l b' a' e' l'
