-- `SenderTurns::register` meets its contract.
use native.Mathlib.Omega.{arith}
use borrow.Author.Rules.{rules}
use Rattle.session_turns.specs.MeaningLaws.{flagged, registers_unknown, registers_twice, registers_fresh}
use Rattle.session_turns.proofs.SenderTurns.register.Goals as goal

pub returns-then-with_flags-sender : goal.returns-then-with_flags-sender
returns-then-with_flags-sender c = registers_unknown _ (search rules) _ (omega arith)

pub returns-then-self-sender : goal.returns-then-self-sender
returns-then-self-sender c = registers_twice _ (search rules) _ (omega arith) c.if-self-sender.true

pub returns : goal.returns
unfolding flagged
returns c = registers_fresh _ (search rules) _ (omega arith) c.if-self-sender.false
