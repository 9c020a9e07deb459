-- `rows_from` meets its contract: the bytes behind so many rows.
use Prim.Native.Nat.{◌*◌}
use native.Mathlib.Omega.{arith}
use borrow.Author.Rules.{rules}
use Rattle.spec_lists.proofs.ListLaws.{lent_from_lem}
use Rattle.set_dependencies.specs.SettledRows.{row_width}
use Rattle.set_dependencies.proofs.settled_rows.rows_from.Goals as goal

pub returns-then-table-start : goal.returns-then-table-start
returns-then-table-start c = λ h. absurd (omega (arith, h, c.if-table-start.true))

pub returns : goal.returns
returns c = λ h. lent_from_lem c.args.table.now (c.args.start * row_width)
