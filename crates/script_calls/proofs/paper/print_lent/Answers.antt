-- `script_calls::paper::print_lent` meets its contract: the answer is printed, and the print from the lent bytes.
use borrow.Author.Rules.{rules}
use Rattle.script_calls.proofs.paper.print_lent.Goals as goal

pub returns : goal.returns
returns c =
    λ m h.
    let left = c.print_collection-answer.ensures.printed m h in
    c.print_collection.ensures c.args.lent.now _ (record { answered = left.0; written = left.1 })
