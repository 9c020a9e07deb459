-- `written::write_row` meets its contract: one copy behind the other, and zeros behind both.
use native.Mathlib.Omega.{arith}
use Rattle.panel_rows.proofs.Copies.{row_left, row_made}
use Rattle.panel_rows.proofs.written.write_row.Goals as goal
use Rattle.panel_rows.proofs.written.write_row.Goals.{then-row-at-via-then-row-at, then-row-at-via-else-row-at+then-row-at-2}

pub returns-then-row-at-clause-made : goal.returns-then-row-at-clause-made
returns-then-row-at-clause-made c =
    elim c.then-row-at.branch [
      | then-row-at-via-then-row-at w ↦ (row_left c.args.key.now c.args.value.now c.args.row.now (omega arith)).1
      | then-row-at-via-else-row-at+then-row-at-2 w ↦ (row_left c.args.key.now c.args.value.now c.args.row.now (omega arith)).1
    ]

pub returns-clause-made : goal.returns-clause-made
returns-clause-made c =
    (row_made c.args.key.now c.args.value.now c.args.row.now (omega arith) c.copy.ensures c.copy-2.ensures c.clear.ensures).1
