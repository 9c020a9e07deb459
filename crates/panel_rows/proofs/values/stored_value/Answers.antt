-- `stored_value` meets its contract: the reader of values reads what is stored.
use mathlib.Core.Path.{ap, ◌∙◌}
use borrow.Author.Rules.{rules}
use Rattle.panel_rows.specs.Lookup.{found_value}
use Rattle.panel_rows.proofs.StoredValues.{value_read_back, value_not_refused}
use Rattle.panel_rows.proofs.values.stored_value.Goals as goal

pub returns-in-Ok : goal.returns-in-Ok
returns-in-Ok c =
    λ v h e.
    let there = value_read_back c.args.row.now c.args.at c.value_at.result c.value_at.ensures v h e _ _ c.in-Ok.is in
    c.value_lookup.ensures there.0 ∙ ap (found_value c.args.mark) there.1

pub returns-in-Err : goal.returns-in-Err
returns-in-Err c =
    λ v h e. absurd (value_not_refused c.args.row.now c.args.at c.value_at.result c.value_at.ensures v h e _ c.in-Err.is)
