-- `turns_in` meets its contract: one number after the other.
use lib.ListN.{get_or}
use Rattle.session_lent_turns.specs.LentTurns.{turns_at}
use borrow.Author.Rules.{rules}
use Rattle.session_lent_turns.proofs.turns_in.Goals as goal

pub returns : goal.returns
returns c =
    λ i. record { senders = get_or c.args.numbers.now 0 0; waiting = (turns_at c.args.numbers.now).waiting; last = c.named_at-last.ensures i }
