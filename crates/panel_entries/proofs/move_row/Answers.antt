-- `move_row` meets its contract: the row is copied, and put at its new place.
use Prim.Native.Nat.{◌-◌}
use native.Mathlib.Omega.{arith}
use borrow.Author.Rules.{rules}
use Rattle.panel_entries.proofs.MovedRow.{without_before, without_behind, moved_row}
use Rattle.panel_entries.proofs.move_row.Goals as goal

pub returns-then-from-to : goal.returns-then-from-to
returns-then-from-to c =
    moved_row c.args.to (c.args.to - 1) (search rules) (without_before c.args.from c.args.to (search rules)) (omega arith) c.record_at.ensures.row c.copy.ensures c.move_record.ensures

pub returns-else-from-to : goal.returns-else-from-to
returns-else-from-to c =
    moved_row c.args.to c.args.to (search rules) (without_behind c.args.from c.args.to (search rules)) (omega arith) c.record_at.ensures.row c.copy.ensures c.move_record-else-from-to.ensures
