-- What stands in the rows of each kind, and the line of each.
use Rattle.std.specs.Prelude.{ℕ, ◌<◌, List}
use Rattle.std.proofs.Common.{arith}
use Rattle.spec_projection.specs.Projection.{Binding as BindingRecord, NodeAvailability, Entry as EntryRecord}
use Rattle.spec_projection.specs.Valid.{FitsBinding, FitsNodeAvailability, FitsEntry}
use Rattle.spec_listing.specs.Listing.{binding_line, availability_line, entry_line}
use Rattle.panel_rows.specs.Rows.{binding_width, availability_width, entry_width, binding_row, availability_row, entry_row}
use Rattle.listing_lines.specs.declared.RowKind.{RowKind}
use Rattle.listing_lines.specs.declared.RowKind.TheVariants.{Binding, Availability, Entry}

abbrev pub Element : RowKind → Type 0
Element Binding = BindingRecord
Element Availability = NodeAvailability
Element Entry = EntryRecord

abbrev pub FitsRow : (k : RowKind) → Element k → Type 0
FitsRow Binding = FitsBinding
FitsRow Availability = FitsNodeAvailability
FitsRow Entry = FitsEntry

abbrev pub row_of : (k : RowKind) → Element k → List ℕ
row_of Binding = binding_row
row_of Availability = availability_row
row_of Entry = entry_row

abbrev pub line_of_row : (k : RowKind) → Element k → List ℕ
line_of_row Binding = binding_line
line_of_row Availability = availability_line
line_of_row Entry = entry_line

abbrev pub width_of : RowKind → ℕ
width_of Binding = binding_width
width_of Availability = availability_width
width_of Entry = entry_width

pub some_width : (k : RowKind) → 0 < width_of k
some_width Binding = omega arith
some_width Availability = omega arith
some_width Entry = omega arith
