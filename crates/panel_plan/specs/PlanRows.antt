-- How a plan is stored: one row of numbers for each binding and entry, the source of its value behind its ids and its mark. An availability's
-- row is that of its table.
use Rattle.std.specs.Prelude.{ℕ, ◌+◌, List, ◌++◌}
use Rattle.spec_patch.specs.Sizes.{projection_bindings, projection_availabilities, projection_entries}
use Rattle.spec_patch.specs.Patch.{Value, quad, signed, text, unsigned, score}
use Rattle.spec_patch.specs.Encode.{u32, u64}
use Rattle.spec_projection.specs.Projection.{Binding, Entry, Projection}
use Rattle.spec_projection.specs.Valid.{Valid}
use Rattle.panel_rows.specs.Rows.{binding_value_at, entry_value_at, availability_width, availability_row}
use Rattle.local_projection_state.specs.Stores.{Stored}
use Rattle.local_projection_state.specs.declared.ProjectionCounts.{ProjectionCounts}

-- a source is a number
abbrev pub source_number : Value → ℕ
source_number (quad q) = 0
source_number (signed z) = 0
source_number (text t) = 0
source_number (unsigned n) = n
source_number (score n) = 0

-- the source, in bytes
abbrev pub source_width : ℕ
source_width = 8

-- a node, a slot, a mark and a source
abbrev pub planned_binding_width : ℕ
planned_binding_width = binding_value_at + source_width

unfoldable pub planned_binding_row : Binding → List ℕ
planned_binding_row b = u64 b.node ++ (u32 b.slot ++ (u64 b.mark ++ u64 (source_number b.value)))

-- a collection, a key, a mark and a source
abbrev pub planned_entry_width : ℕ
planned_entry_width = entry_value_at + source_width

unfoldable pub planned_entry_row : Entry → List ℕ
planned_entry_row e = u64 e.collection ++ (u64 e.key ++ (u64 e.mark ++ u64 (source_number e.value)))

-- a table of so many rows stores the bindings of a plan, or its entries
abbrev pub PlannedBindings : ℕ → List ℕ → List Binding → Type 0
PlannedBindings n table bs = Stored planned_binding_row planned_binding_width projection_bindings n table bs

abbrev pub PlannedEntries : ℕ → List ℕ → List Entry → Type 0
PlannedEntries n table es = Stored planned_entry_row planned_entry_width projection_entries n table es

-- three tables store a plan
pub record StoredPlan (counts : ProjectionCounts) (bindingTable availabilityTable entryTable : List ℕ) (p : Projection) : Type 0 where
  pub bindings : PlannedBindings counts.bindings bindingTable p.bindings
  pub availabilities : Stored availability_row availability_width projection_availabilities counts.availabilities availabilityTable p.availabilities
  pub entries : PlannedEntries counts.entries entryTable p.entries
  pub valid : Valid p
