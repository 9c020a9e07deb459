-- `bytes_printer::print_bytes` meets its contract: no position, one behind the slice, and as many bytes as there is room for.
use native.Mathlib.Omega.{arith}
use borrow.Author.Rules.{rules}
use Rattle.bytes_printer.proofs.PrintsLaws.{from_next, handed_on, not_printed, none_printed, copied_all, copied_part}
use Rattle.bytes_printer.proofs.print_bytes.Goals as goal

pub returns-in_err-from : goal.returns-in_err-from
returns-in_err-from c = handed_on (search rules) (not_printed c.args.out.now c.args.text.now c.in_err-from.was)

pub returns-in_err-room : goal.returns-in_err-room
returns-in_err-room c = handed_on (search rules) (from_next c.in_ok-from.was (none_printed c.args.out.now _ c.args.text.now (omega arith) (omega arith)))

pub returns-then-count-text : goal.returns-then-count-text
returns-then-count-text c =
    from_next c.in_ok-from.was (copied_part c.args.out.now c.args.text.now _ c.in_ok-from.from c.min-count.result (omega arith) (search rules) (search rules) c.if-count-text.true)

pub returns-else-count-text : goal.returns-else-count-text
returns-else-count-text c =
    from_next c.in_ok-from.was (copied_all c.args.out.now c.args.text.now _ c.in_ok-from.from c.min-count.result (omega arith) (search rules) (search rules) (omega arith))
