-- `collection_page` meets its contract: the keys are looked up in the table, or there is no session.
use Rattle.session_lent_views.specs.ViewsLaws.{tables_stored, entries_held, entries_shaped_lem, rows_none, rows_some, written_refused, written_answered}
use Rattle.session_lent_views.proofs.page.collection_page.Goals as goal

pub returns-in_err-count : goal.returns-in_err-count
returns-in_err-count c =
    written_refused _ c.from_residual.result c.from_residual.ensures (rows_none _ _ c.entry_rows.result c.entry_rows.ensures c.in_err-count.was) (entries_shaped_lem _ _)

pub returns : goal.returns
returns c =
    let some = rows_some _ _ c.entry_rows.result _ c.entry_rows.ensures c.in_ok-count.was in
    written_answered _ _ c.collection_page.result some.0 (c.collection_page.ensures.told, c.collection_page.ensures.kept) (λ m h. (c.collection_page.ensures.told, c.collection_page.ensures.written m.projection (entries_held _ some.1 h) (tables_stored h.tables).valid))
