-- `listing_lines::print_row` meets its contract: each kind has its own line.
use Rattle.listing_lines.proofs.Lines.{kind_told}
use Rattle.listing_lines.proofs.print_row.Goals as goal

pub returns-in-Binding : goal.returns-in-Binding
returns-in-Binding c =
    kind_told c.in-Binding.is c.print_binding.ensures

pub returns-in-Availability : goal.returns-in-Availability
returns-in-Availability c =
    kind_told c.in-Availability.is c.print_availability.ensures

pub returns-in-Entry : goal.returns-in-Entry
returns-in-Entry c =
    kind_told c.in-Entry.is c.print_entry.ensures
