-- `check_table::insert_finding` meets its contract: there is no room, the finding is there already, or it is inserted at its place.
use mathlib.Core.Path.{sym, ◌∙◌}
use Prim.Native.Nat.{◌*◌, ◌≤◌}
use native.Mathlib.Omega.{arith}
use lib.ListN.{length-take, length-drop}
use Rattle.check_table.specs.FindingTableLaws.{within_before, table_full, there_already, one_more}
use borrow.Author.Rules.{rules}
use Rattle.check_table.proofs.insert_finding.Goals as goal
use Rattle.check_table.proofs.insert_finding.Goals.{In-Err}

-- the place is among the records or behind them
below : (c : In-Err) → c.in-Err.place ≤ c.args.count
below c =
    omega (arith, within_before _ _ _ c.finding_place.ensures.within c.in-Err.is, length-take (3 * c.args.count) c.args.records.now)

pub returns-then-records-count : goal.returns-then-records-count
returns-then-records-count c = let all = table_full _ _ _ (search rules) in record { counted = all.0; numbers = all.1 }

pub slice_bounds-finding_place-end-2 : goal.slice_bounds-finding_place-end-2
slice_bounds-finding_place-end-2 c =
    omega (arith, length-take (3 * c.args.count) c.args.records.now)

pub overflow_mul-from : goal.overflow_mul-from
overflow_mul-from c = omega (arith, below c)

pub offset_bounds-records-from : goal.offset_bounds-records-from
offset_bounds-records-from c = omega (arith, below c)

pub slice_bounds-push_finding-count : goal.slice_bounds-push_finding-count
slice_bounds-push_finding-count c = omega (arith, below c)

pub slice_bounds-push_finding-start : goal.slice_bounds-push_finding-start
slice_bounds-push_finding-start c = omega (arith, below c)

pub push_finding-requires : goal.push_finding-requires
push_finding-requires c = simp (length-take, length-drop) (omega (arith, below (goal.at.push_finding-requires c).In-Err))

pub returns-in-Ok : goal.returns-in-Ok
returns-in-Ok c =
    let all = there_already _ c.args.count c.args.records.now (search rules) c.in-Ok.field-0 (sym c.finding_place.ensures.place ∙ c.in-Ok.is) in record { counted = all.0; numbers = all.1 }

pub returns-in-Err : goal.returns-in-Err
returns-in-Err c =
    let all = one_more _ c.args.count c.args.records.now (search rules) c.in-Err.place (sym c.finding_place.ensures.place ∙ c.in-Err.is) (below (goal.at.returns-in-Err c).In-Err) _ c.push_finding.ensures in record { counted = all.0; numbers = all.1 }
