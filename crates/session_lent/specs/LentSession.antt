-- What it is that lent slices hold a session of the model: every number of the head and every byte of the tables. The anchors stay with the caller,
-- who lends them at each call as they were at creation.
use Rattle.std.specs.Prelude.{ℕ, ◌*◌, ◌%◌, ◌≡◌, Bool, ◌&&◌, List, leb, eqb, length}
use Rattle.spec_patch.specs.Sizes.{anchors, projection_bindings, projection_availabilities, projection_entries}
use Rattle.spec_session.specs.Session.{Session}
use Rattle.spec_session.specs.ValidSession.{FewAnchors}
use Rattle.spec_lengths.specs.Lengths.{collection_lengths}
use Rattle.session_gates.specs.Lent.{Lent}
use Rattle.panel_rows.specs.Rows.{binding_bytes, availability_bytes, entry_bytes}
use Rattle.local_projection_state.specs.Stores.{StoredTables, StoredLengths, counts_of}
use Rattle.panel_changes.specs.SetChanges.{tables_fit, change_counts_fit, ReadyTables}
use Rattle.session_lent.specs.Head.{head_numbers, counts_at, lent_head_of}

pub record LentSession (head nodes pairs collections bindings availability entries lengths : List ℕ) (m : Session) : Type 0 where
  pub head_is : head ≡ lent_head_of m
  pub anchors_are : Lent m.catalogue nodes pairs collections
  pub few : FewAnchors m.catalogue
  pub projection : StoredTables (counts_of m.projection) bindings availability entries m.projection
  pub collections_told : StoredLengths lengths (collection_lengths m.projection)

-- ---- slices that can hold a session

-- so many numbers are anchors: at most 128 of each kind, and two numbers for each binding
unfoldable pub anchors_shaped : (nodes pairs collections : ℕ) → Bool
anchors_shaped nodes pairs collections = leb nodes anchors && (leb pairs (2 * anchors) && (eqb (pairs % 2) 0 && leb collections anchors))

-- a head, and tables of these lengths: no count is over its capacity
unfoldable pub half_shaped : List ℕ → (bindings availability entries : ℕ) → Bool
half_shaped head bindings availability entries = eqb (length head) head_numbers && (tables_fit bindings availability entries && change_counts_fit (counts_at head))

-- a head, and one table, which has these bytes: its count is not over its capacity
unfoldable pub table_shaped : (head : List ℕ) (count table bytes capacity : ℕ) → Bool
table_shaped head count table bytes capacity = eqb (length head) head_numbers && (eqb table bytes && leb count capacity)

abbrev pub bindings_shaped : List ℕ → ℕ → Bool
bindings_shaped head table = table_shaped head (counts_at head).bindings table binding_bytes projection_bindings

abbrev pub availabilities_shaped : List ℕ → ℕ → Bool
availabilities_shaped head table = table_shaped head (counts_at head).availabilities table availability_bytes projection_availabilities

abbrev pub entries_shaped : List ℕ → ℕ → Bool
entries_shaped head table = table_shaped head (counts_at head).entries table entry_bytes projection_entries

-- the half that a batch writes to: as creation or an earlier call left it, so that nothing stands behind the rows that its head counts
pub record LentRoom (head bindings availability entries lengths : List ℕ) : Type 0 where
  pub head_long : length head ≡ head_numbers
  pub tables : ReadyTables (counts_at head) bindings availability entries lengths
