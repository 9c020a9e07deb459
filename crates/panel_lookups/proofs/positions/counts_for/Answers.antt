-- `positions::counts_for` meets its contract: the row's collection is compared.
use Prim.Native.Nat.{◌<◌}
use mathlib.Core.Path.{◌≡◌, refl, sym, ap, ◌∙◌}
use mathlib.Core.List.{List, map}
use native.Mathlib.Omega.{arith}
use borrow.Author.Tests.{eqb-true, eqb-false}
use borrow.Author.Rules.{rules}
use lib.ListN.{length, get_or}
use Rattle.spec_lists.specs.Lists.{All}
use Rattle.spec_projection.specs.Projection.{Entry}
use Rattle.spec_projection.specs.Valid.{FitsEntry}
use Rattle.bytes_records.specs.Table.{HoldsRows}
use Rattle.panel_rows.specs.Rows.{entry_width, entry_row, collection_in}
use Rattle.panel_rows.specs.RowsLaws.{entry_collection}
use Rattle.panel_lookups.specs.NthLaws.{counts_test, fits_at, row_at_entry}
use Rattle.bytes_records.specs.TableLaws.{holds_length}
use Rattle.panel_lookups.proofs.positions.counts_for.Goals as goal
use Rattle.panel_lookups.proofs.positions.counts_for.Goals.{After-entry_collection}

-- the row's collection is that of its entry
own : (c : After-entry_collection) (es : List Entry) (d : Entry) → All FitsEntry es
    → HoldsRows entry_width c.args.count c.args.table.now (map entry_row es) → c.args.at < c.args.count → c.entry_collection.result ≡ (get_or es c.args.at d).collection
own c es d fit t below =
    let inside : c.args.at < length es = omega (arith, holds_length entry_row es t) in
    c.entry_collection.ensures ∙ ap collection_in (c.record_at-row.ensures.row (map entry_row es) t ∙ row_at_entry es c.args.at d inside)
    ∙ entry_collection (get_or es c.args.at d) (fits_at es c.args.at d inside fit)

pub returns-then-entry_collection-collection : goal.returns-then-entry_collection-collection
returns-then-entry_collection-collection c =
    record { counted = (λ es d fit t below. counts_test c.args.collection (get_or es c.args.at d) 1 (λ e. refl) (λ e. absurd (eqb-false (get_or es c.args.at d).collection c.args.collection e (sym (own (goal.at.returns-then-entry_collection-collection c).After-entry_collection es d fit t below) ∙ search rules)))); within = omega arith }

pub returns : goal.returns
returns c =
    record { counted = (λ es d fit t below. counts_test c.args.collection (get_or es c.args.at d) 0 (λ e. absurd (c.if-entry_collection-collection.false (own (goal.at.returns c).After-entry_collection es d fit t below ∙ eqb-true (get_or es c.args.at d).collection c.args.collection e))) (λ e. refl)); within = omega arith }
