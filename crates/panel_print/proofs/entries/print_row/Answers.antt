-- `entries::print_row` meets its contract: a row of another collection prints nothing.
use mathlib.Core.Path.{◌≡◌, sym, ap, ◌∙◌}
use borrow.Author.Rules.{rules}
use borrow.Author.Tests.{eq-eqb, ne_eqb}
use Rattle.spec_projection.specs.Projection.{Entry}
use Rattle.spec_projection.specs.Valid.{FitsEntry}
use Rattle.bytes_printer.proofs.PrintsLaws.{prints_same, nothing_printed}
use Rattle.panel_rows.specs.Rows.{collection_in, entry_row}
use Rattle.panel_rows.specs.RowsLaws.{entry_collection}
use Rattle.panel_print.specs.EntriesPrintLaws.{own_print, other_print}
use Rattle.panel_print.proofs.entries.print_row.Goals as goal
use Rattle.panel_print.proofs.entries.print_row.Goals.{After-entry_collection}

-- the row's collection is that of its entry
own : (c : After-entry_collection) (e : Entry) → FitsEntry e → c.args.row.now ≡ entry_row e → c.entry_collection.result ≡ e.collection
own c e fits is = c.entry_collection.ensures ∙ ap collection_in is ∙ entry_collection e fits

pub returns-then-entry_collection-collection : goal.returns-then-entry_collection-collection
returns-then-entry_collection-collection c =
    λ e fits is within.
    prints_same (other_print c.args.collection e (ne_eqb e.collection c.args.collection (λ same. c.if-entry_collection-collection.true (own (goal.at.returns-then-entry_collection-collection c).After-entry_collection e fits is ∙ same)))) (nothing_printed c.args.out.now c.args.at within)

pub returns : goal.returns
returns c =
    λ e fits is within.
    let same = sym (own (goal.at.returns c).After-entry_collection e fits is) ∙ c.if-entry_collection-collection.false in
    prints_same (own_print c.args.collection e (eq-eqb e.collection c.args.collection same)) (c.print_entry.ensures e fits is)
