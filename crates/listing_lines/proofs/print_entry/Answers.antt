-- `listing_lines::print_entry` meets its contract: the row's numbers and its value in a line.
use mathlib.Core.Path.{ap, ◌∙◌}
use lib.ListN.{drop}
use Rattle.panel_rows.specs.Rows.{entry_value_at, collection_in, key_in}
use Rattle.panel_rows.specs.RowsLaws.{entry_behind, entry_collection, entry_key}
use Rattle.spec_listing.specs.Listing.{entry_line}
use Rattle.bytes_printer.proofs.PrintsLaws.{prints_same}
use Rattle.listing_lines.specs.LookupFields.{lookup_fields, found_fields}
use Rattle.listing_lines.proofs.Rows.{same_record}
use Rattle.listing_lines.proofs.print_entry.Goals as goal

pub returns : goal.returns
unfolding entry_line
returns c =
    λ x fits is.
    let shown = ap lookup_fields (c.stored_value-value.ensures x.value fits.value (ap (drop entry_value_at) is ∙ entry_behind x)) ∙ found_fields 0 x.value in
    prints_same (same_record 67 (c.entry_collection-collection.ensures ∙ ap collection_in is ∙ entry_collection x fits) (c.entry_key-key.ensures ∙ ap key_in is ∙ entry_key x fits) shown) c.print_record.ensures
