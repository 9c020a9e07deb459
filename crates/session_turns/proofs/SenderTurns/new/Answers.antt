-- `SenderTurns::new` meets its contract.
use native.Mathlib.Omega.{arith}
use Rattle.std.specs.Prelude.{Ok}
use Rattle.std.proofs.Common.{ap, ◌∙◌}
use Rattle.session_turns.specs.MeaningLaws.{sets_up, refuses_none, refuses_many}
use Rattle.session_turns.proofs.SenderTurns.new.Goals as goal
use Rattle.session_turns.proofs.SenderTurns.new.Goals.{then-senders-lt1-via-then-senders-lt1, then-senders-lt1-via-else-senders-lt1+then-senders-gt-MOST_SENDERS}

pub returns-then-senders-lt1 : goal.returns-then-senders-lt1
returns-then-senders-lt1 c =
    elim c.then-senders-lt1.branch [
      | then-senders-lt1-via-then-senders-lt1 w ↦ refuses_none _ w.if-senders-lt1.true
      | then-senders-lt1-via-else-senders-lt1+then-senders-gt-MOST_SENDERS w ↦ refuses_many _ w.if-senders-gt-MOST_SENDERS.true
    ]

pub returns : goal.returns
returns c = ap Ok c.fresh.ensures ∙ sets_up _ (omega arith) (omega arith)
