-- `state_in` meets its contract: id, lifecycle and cursor are what the first four numbers tell.
use lib.ListN.{get_or}
use borrow.Author.Rules.{rules}
use Rattle.session_lent.proofs.head.state_in.Goals as goal

pub returns : goal.returns
returns c = λ i. record { id = get_or c.args.head.now 0 0; lifecycle = c.lifecycle_of-lifecycle.ensures i; cursor = c.cursor_of-replay_cursor.ensures i }
