-- `script_replay::set_lines::print_converted` meets its contract: the answer is printed, and the set from the lent bytes.
use borrow.Author.Rules.{rules}
use Rattle.script_replay.proofs.set_lines.print_converted.Goals as goal

pub returns : goal.returns
returns c =
    c.print_conversion.ensures _ (record { lent = c.args.lent.now; answered = c.convert-answer.ensures.value; written = c.convert-answer.ensures.out_after })
