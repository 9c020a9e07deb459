-- `upsert_row` meets its contract: the row is replaced, inserted, or there is no room for it.
use mathlib.Core.Path.{sym, ◌∙◌}
use native.Mathlib.Omega.{arith}
use borrow.Author.Rules.{rules}
use Rattle.panel_bindings.specs.RowChanges.{insert_room}
use Rattle.panel_bindings.proofs.Upserts.{upsert_taken, upsert_inserted, upsert_full}
use Rattle.panel_bindings.proofs.upsert_row.Goals as goal

pub overflow_add-result : goal.overflow_add-result
overflow_add-result c =
    omega (arith, insert_room _ _ _ _ _ (search rules) (sym c.insert_record.ensures.told ∙ c.if-insert_record.true))

pub returns-then-insert_record : goal.returns-then-insert_record
returns-then-insert_record c =
    record { made = upsert_inserted (search rules) (search rules) _ _ _ c.in-Err.is c.if-insert_record.true c.insert_record.ensures; kept = search rules }

pub returns-in-Ok : goal.returns-in-Ok
returns-in-Ok c =
    record { made = upsert_taken (search rules) (search rules) _ _ _ c.in-Ok.is c.replace_record.ensures; kept = search rules }

pub returns-else-insert_record : goal.returns-else-insert_record
returns-else-insert_record c =
    record { made = upsert_full (search rules) (search rules) _ _ _ c.in-Err.is c.if-insert_record.false c.insert_record.ensures; kept = c.insert_record.ensures.kept c.if-insert_record.false }
