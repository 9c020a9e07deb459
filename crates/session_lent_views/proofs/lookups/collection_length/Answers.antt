-- `collection_length` meets its contract: the look-up in the table of lengths, or no session.
use Rattle.session_lent_views.specs.ViewsLaws.{held_lengths, lengths_valid, lengths_shaped_lem, rows_none, rows_some, viewed_refused, viewed_answered}
use Rattle.session_lent_views.proofs.lookups.collection_length.Goals as goal

pub returns-in_err-length_rows : goal.returns-in_err-length_rows
returns-in_err-length_rows c =
    viewed_refused c.from_residual.result c.from_residual.ensures (rows_none _ _ c.length_rows.result c.length_rows.ensures c.in_err-length_rows.was) (lengths_shaped_lem _ _)

pub returns : goal.returns
returns c =
    let some = rows_some _ _ c.length_rows.result _ c.length_rows.ensures c.in_ok-length_rows.was in
    viewed_answered c.collection_length.result some.0 (λ m h. c.collection_length.ensures m.projection (held_lengths h) (lengths_valid h))
