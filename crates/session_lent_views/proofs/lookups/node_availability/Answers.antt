-- `node_availability` meets its contract: the look-up in the table, or no session.
use Rattle.session_lent_views.specs.ViewsLaws.{tables_stored, availabilities_held, availabilities_shaped_lem, rows_none, rows_some, viewed_refused, viewed_answered}
use Rattle.session_lent_views.proofs.lookups.node_availability.Goals as goal

pub returns-in_err-count : goal.returns-in_err-count
returns-in_err-count c =
    viewed_refused c.from_residual.result c.from_residual.ensures (rows_none _ _ c.availability_rows.result c.availability_rows.ensures c.in_err-count.was) (availabilities_shaped_lem _ _)

pub returns : goal.returns
returns c =
    let some = rows_some _ _ c.availability_rows.result _ c.availability_rows.ensures c.in_ok-count.was in
    viewed_answered c.node_availability.result some.0 (λ m h. c.node_availability.ensures m.projection (availabilities_held _ some.1 h) (tables_stored h.tables).valid)
