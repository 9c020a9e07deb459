-- What a state stores: its tables are the rows of a projection's lists and of its collections' lengths, its counts the lists' lengths, and every
-- unused place is zero.
use Rattle.std.specs.Prelude.{ℕ, ◌*◌, ◌≡◌, List, map, length}
use Rattle.spec_patch.specs.Sizes.{projection_bindings, projection_availabilities, projection_entries}
use Rattle.spec_projection.specs.Projection.{Projection}
use Rattle.spec_projection.specs.Valid.{Valid}
use Rattle.spec_lengths.specs.Lengths.{CollectionLength, collection_lengths}
use Rattle.bytes_records.specs.Table.{table_bytes, HoldsRows}
use Rattle.panel_rows.specs.Rows.{binding_width, availability_width, entry_width, length_width, binding_bytes, availability_bytes, entry_bytes, length_bytes, binding_row, availability_row, entry_row, length_row}
use Rattle.local_projection_state.specs.declared.LocalProjectionState.{LocalProjectionState}
use Rattle.local_projection_state.specs.declared.ProjectionCounts.{ProjectionCounts}

-- a table of so many places stores a list: one row for each element, in order
pub record Stored {A : Type 0} (row : A → List ℕ) (width capacity count : ℕ) (table : List ℕ) (l : List A) : Type 0 where
  pub size : length table ≡ capacity * width
  pub rows : HoldsRows width count table (map row l)

-- three tables store a projection
pub record StoredTables (counts : ProjectionCounts) (bindingTable availabilityTable entryTable : List ℕ) (p : Projection) : Type 0 where
  pub bindings : Stored binding_row binding_width projection_bindings counts.bindings bindingTable p.bindings
  pub availabilities : Stored availability_row availability_width projection_availabilities counts.availabilities availabilityTable p.availabilities
  pub entries : Stored entry_row entry_width projection_entries counts.entries entryTable p.entries
  pub valid : Valid p

-- a table stores the lengths of collections that are so many
abbrev pub StoredLengths : List ℕ → List CollectionLength → Type 0
StoredLengths table l = Stored length_row length_width projection_entries (length l) table l

-- the state stores the projection, byte for byte
pub record Stores (s : LocalProjectionState) (p : Projection) : Type 0 where
  pub tables : StoredTables s.counts s.bindings s.availability s.entries p
  pub lengths : StoredLengths s.lengths (collection_lengths p)

-- the counts of a projection
abbrev pub counts_of : Projection → ProjectionCounts
counts_of p = record { bindings = length p.bindings; availabilities = length p.availabilities; entries = length p.entries }

-- the state that stores a projection
unfoldable pub stored_state : Projection → LocalProjectionState
stored_state p = record {
  counts = counts_of p;
  bindings = table_bytes binding_bytes (map binding_row p.bindings);
  availability = table_bytes availability_bytes (map availability_row p.availabilities);
  entries = table_bytes entry_bytes (map entry_row p.entries);
  lengths = table_bytes length_bytes (map length_row (collection_lengths p));
}
