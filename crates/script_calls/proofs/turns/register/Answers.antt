-- `script_calls::turns::register` meets its contract: the turns there are answer, and their next ones take their place.
use mathlib.Core.Path.{refl, ap}
use Rattle.spec_replay.specs.Replay.{registered}
use Rattle.spec_replay.specs.Answers.{register_line}
use Rattle.bytes_printer.proofs.PrintsLaws.{prints_same}
use Rattle.script_calls.specs.ReplayHoldsLaws.{step_goes_on}
use Rattle.script_calls.specs.TurnSteps.{turns_asked, no_turns_asked, holds_turns, registered_next, registered_answer}
use borrow.Author.Rules.{rules}
use Rattle.script_calls.proofs.turns.register.Goals as goal

pub returns-then-own-gt0 : goal.returns-then-own-gt0
unfolding registered
returns-then-own-gt0 c =
    λ m h. turns_asked c.args.state m h _ _ _ _ c.if-own-gt0.true (λ t held.
    step_goes_on refl (rw c.with_turns-next.ensures (holds_turns c.args.state m h _ _ (registered_next _ t held c.args.sender c.register-step.result c.register-step.ensures)))
    (prints_same (ap register_line (registered_answer _ t held c.args.sender c.register-step.result c.register-step.ensures)) c.print_registration-printed.ensures))

pub returns : goal.returns
returns c = λ m h. no_turns_asked c.args.state m h _ _ _ _ c.if-own-gt0.false (c.no_session.ensures m h)
