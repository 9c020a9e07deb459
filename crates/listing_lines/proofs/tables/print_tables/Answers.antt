-- `listing_lines::tables::print_tables` meets its contract: the line of the count, then the lines of the three tables.
use Prim.Native.Nat.{ℕ}
use mathlib.Core.Path.{◌≡◌, ap, ◌∙◌}
use mathlib.Core.List.{[], ◌∷◌}
use native.Mathlib.Omega.{arith}
use Rattle.panel_rows.specs.Rows.{binding_row, availability_row, entry_row}
use Rattle.spec_decimal.specs.Decimal.{decimal}
use Rattle.spec_listing.specs.Listing.{fields, record_count, projection_lines}
use Rattle.bytes_printer.proofs.PrintsLaws.{◌⨾◌, prints_same, ends_within}
use Rattle.bytes_records.specs.TableLaws.{holds_length}
use Rattle.listing_lines.proofs.tables.print_tables.Goals as goal

pub returns : goal.returns
unfolding record_count projection_lines
returns c =
    λ p bs vs es v.
    let b = holds_length binding_row p.bindings bs.rows in
    let a = holds_length availability_row p.availabilities vs.rows in
    let e = holds_length entry_row p.entries es.rows in
    let total : c.record_count-count.result ≡ record_count p = c.record_count-count.ensures (omega (arith, v.few_bindings)) (omega (arith, v.few_availabilities)) (omega (arith, v.few_entries)) ∙ omega arith in
    let counted = prints_same (ap (λ (n : ℕ). 80 ∷ fields (decimal n ∷ [])) total) c.print_number_line-head.ensures in
    let bound = c.print_rows-first.ensures p.bindings v.fit_bindings bs.rows (ends_within counted) in
    let available = c.print_rows-second.ensures p.availabilities v.fit_availabilities vs.rows (ends_within bound) in
    counted ⨾ bound ⨾ available ⨾ c.print_rows.ensures p.entries v.fit_entries es.rows (ends_within available)
