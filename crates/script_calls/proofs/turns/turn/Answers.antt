-- `script_calls::turns::turn` meets its contract: the session there is tells its cursor.
use Rattle.script_calls.specs.ReplayHoldsLaws.{asked_there, asked_nowhere}
use Rattle.script_calls.specs.TurnSteps.{at_cursor}
use borrow.Author.Rules.{rules}
use Rattle.script_calls.proofs.turns.turn.Goals as goal

pub returns-then-state : goal.returns-then-state
returns-then-state c =
    λ m h. asked_there c.args.state m h _ _ _ _ c.if-state.true (λ x held.
    at_cursor m _ _ (c.replay_cursor-cursor.ensures.holding x held) (c.turn_at.ensures m h))

pub returns : goal.returns
returns c = λ m h. asked_nowhere c.args.state m h _ _ _ _ c.if-state.false (c.no_session.ensures m h)
