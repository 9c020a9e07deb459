-- `node_availability` meets its contract: the row at the key's place, or none.
use mathlib.Core.List.{map}
use borrow.Author.Rules.{rules}
use Rattle.panel_rows.specs.Rows.{availability_row}
use Rattle.panel_lookups.proofs.Found.{availability_found, availability_absent}
use Rattle.panel_lookups.proofs.node_availability.Goals as goal

pub returns-in-Ok : goal.returns-in-Ok
returns-in-Ok c =
    λ p s v.
    availability_found p v c.args.node c.find_place.result (c.find_place.ensures.first (map availability_row p.availabilities) s.rows) _ c.in-Ok.is c.record_at.result.now (c.record_at.ensures.row (map availability_row p.availabilities) s.rows) c.stored_availability.result c.stored_availability.ensures

pub returns-in-Err : goal.returns-in-Err
returns-in-Err c =
    λ p s v.
    availability_absent p v c.args.node c.find_place.result (c.find_place.ensures.first (map availability_row p.availabilities) s.rows) _ c.in-Err.is c.no_availability.result c.no_availability.ensures
