-- `binding_value` meets its contract: the row at the key's place, or none.
use mathlib.Core.List.{map}
use borrow.Author.Rules.{rules}
use Rattle.panel_rows.specs.Rows.{binding_row}
use Rattle.panel_lookups.proofs.Found.{binding_found, binding_absent}
use Rattle.panel_lookups.proofs.binding_value.Goals as goal

pub returns-in-Ok : goal.returns-in-Ok
returns-in-Ok c =
    λ p s v.
    let rows = map binding_row p.bindings in
    binding_found p v c.args.node c.args.slot c.find_pair_place.result (c.find_pair_place.ensures.first rows s.rows) _ c.in-Ok.is
    c.record_at-row.result.now (c.record_at-row.ensures.row rows s.rows) _ c.binding_mark.ensures c.stored_value.result c.stored_value.ensures

pub returns-in-Err : goal.returns-in-Err
returns-in-Err c =
    λ p s v.
    binding_absent p v c.args.node c.args.slot c.find_pair_place.result (c.find_pair_place.ensures.first (map binding_row p.bindings) s.rows) _ c.in-Err.is c.no_value.result c.no_value.ensures
