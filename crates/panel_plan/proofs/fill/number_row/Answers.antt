-- `fill::number_row` meets its contract: the front of the row, and the number behind it.
use mathlib.Core.Path.{sym}
use native.Mathlib.Omega.{arith}
use borrow.Author.Rules.{rules}
use lib.Seq.{length-take-le}
use Rattle.panel_plan.proofs.Numbered.{number_written}
use Rattle.panel_plan.proofs.fill.number_row.Goals as goal

pub returns-then-old-front : goal.returns-then-old-front
returns-then-old-front c = λ wide size. absurd (omega arith)

pub returns-then-row-front : goal.returns-then-row-front
returns-then-row-front c = λ wide size. absurd (omega arith)

pub slice_bounds-copy-end : goal.slice_bounds-copy-end
slice_bounds-copy-end c = sym (length-take-le _ _ (omega arith))

pub copy-requires : goal.copy-requires
copy-requires c =
    omega (arith, length-take-le c.args.front c.args.old.now (omega arith))

pub returns : goal.returns
returns c =
    λ wide size. number_written _ _ _ _ wide size c.copy.ensures c.write_u64_at.ensures.out_after
