-- `next_sender` meets its contract.
use mathlib.Core.Path.{◌∙◌}
use borrow.Author.Rules.{rules}
use Rattle.session_turns.specs.MeaningLaws.{searched}
use Rattle.session_turns.proofs.next_sender.Goals as goal

pub returns : goal.returns
returns c =
    c.first_waiting.ensures ∙ searched c.args.turns (search rules) _ _ c.with_flags-count.ensures c.first_asked-from.ensures
