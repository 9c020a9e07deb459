-- `settled_row` meets its contract: two numbers and two flags, one behind another.
use borrow.Author.Rules.{rules}
use Rattle.set_dependencies.specs.SettledRows.{settled_of}
use Rattle.set_dependencies.proofs.Rows.{row_written}
use Rattle.set_dependencies.proofs.settled_rows.settled_row.Goals as goal

pub returns : goal.returns
returns c =
    row_written (settled_of c.args.settled) c.write_u64_at.ensures.out_after c.write_u64_at-2.ensures.out_after c.flag_byte.ensures c.flag_byte-2.ensures
