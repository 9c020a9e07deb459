-- `print_collection` meets its contract: the collection is printed from the table, or there is no session.
use Rattle.session_lent_views.specs.ViewsLaws.{tables_stored, entries_held, entries_shaped_lem, rows_none, rows_some, written_refused, written_answered}
use Rattle.session_lent_views.proofs.print.print_collection.Goals as goal

pub returns-in_err-count : goal.returns-in_err-count
returns-in_err-count c =
    written_refused _ c.from_residual.result c.from_residual.ensures (rows_none _ _ c.entry_rows.result c.entry_rows.ensures c.in_err-count.was) (entries_shaped_lem _ _)

pub returns : goal.returns
returns c =
    let some = rows_some _ _ c.entry_rows.result _ c.entry_rows.ensures c.in_ok-count.was in
    written_answered _ _ c.print_collection.result some.0 c.print_collection.ensures.kept (λ m h. c.print_collection.ensures.printed m.projection (entries_held _ some.1 h) (tables_stored h.tables).valid)
