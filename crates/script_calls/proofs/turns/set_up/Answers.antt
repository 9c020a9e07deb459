-- `script_calls::turns::set_up` meets its contract: the new turns take the place of the own ones, or these stay.
use Rattle.script_calls.specs.TurnSteps.{settled_step}
use mathlib.Core.Path.{ap}
use Rattle.session_turns.specs.Meaning.{set_up_answered}
use borrow.Author.Rules.{rules}
use Rattle.script_calls.proofs.turns.set_up.Goals as goal

pub returns : goal.returns
returns c =
    λ m h. rw c.with_turns-next.ensures
    (settled_step c.args.state m h c.new-made.result c.unwrap_or-turns.result c.unwrap_or-turns.ensures _ _ _ c.args.senders c.new-made.ensures (c.print_set_up-printed.ensures _ (ap set_up_answered c.new-made.ensures)))
