-- `bytes_printer::print_byte` meets its contract: no position, one at the end of the slice or behind it, and one in it.
use native.Mathlib.Omega.{arith}
use borrow.Author.Rules.{rules}
use Rattle.bytes_printer.proofs.PrintsLaws.{from_next, handed_on, not_printed, none_printed, one_printed}
use Rattle.bytes_printer.proofs.print_byte.Goals as goal

pub returns-in_err-from : goal.returns-in_err-from
returns-in_err-from c = handed_on (search rules) (not_printed c.args.out.now _ c.in_err-from.was)

pub returns-then-out-from : goal.returns-then-out-from
returns-then-out-from c = from_next c.in_ok-from.was (none_printed c.args.out.now _ _ (omega arith) (omega arith))

pub returns : goal.returns
returns c = from_next c.in_ok-from.was (one_printed c.args.out.now _ _ (omega arith))
