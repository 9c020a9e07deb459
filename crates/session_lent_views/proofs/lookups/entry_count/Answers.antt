-- `entry_count` meets its contract: the look-up in the table, or no session.
use Rattle.session_lent_views.specs.ViewsLaws.{tables_stored, entries_held, entries_shaped_lem, rows_none, rows_some, viewed_refused, viewed_answered}
use Rattle.session_lent_views.proofs.lookups.entry_count.Goals as goal

pub returns-in_err-count : goal.returns-in_err-count
returns-in_err-count c =
    viewed_refused c.from_residual.result c.from_residual.ensures (rows_none _ _ c.entry_rows.result c.entry_rows.ensures c.in_err-count.was) (entries_shaped_lem _ _)

pub returns : goal.returns
returns c =
    let some = rows_some _ _ c.entry_rows.result _ c.entry_rows.ensures c.in_ok-count.was in
    viewed_answered c.entry_count.result some.0 (λ m h. c.entry_count.ensures m.projection (entries_held _ some.1 h) (tables_stored h.tables).valid)
