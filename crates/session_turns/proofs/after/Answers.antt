-- `after` meets its contract.
use mathlib.Core.Path.{sym}
use native.Mathlib.Omega.{arith}
use Rattle.spec_turns.proofs.CircleLaws.{after_next, after_last}
use Rattle.session_turns.proofs.after.Goals as goal

pub returns-then-senders-sender : goal.returns-then-senders-sender
returns-then-senders-sender c = sym (after_last _ _ (omega arith))

pub returns-then-next-senders : goal.returns-then-next-senders
returns-then-next-senders c = sym (after_next _ _ (omega arith))

pub returns : goal.returns
returns c = sym (after_last _ _ (omega arith))
