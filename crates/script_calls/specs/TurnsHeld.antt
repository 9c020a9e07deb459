-- What it is that a struct stores the turns of a replay.
use Rattle.std.specs.Prelude.{◌≤◌, ◌≡◌}
use Rattle.std.proofs.Math.Option.{Option, none, some}
use Rattle.spec_turns.specs.Turns.{Turns, senders, most_senders}
use Rattle.session_turns.specs.declared.SenderTurns.{SenderTurns}
use Rattle.session_turns.specs.Meaning.{turns_to, fresh_turns}

-- the senders' flags, with false behind them; without senders, the struct of none
unfoldable pub held_turns : Option Turns → SenderTurns
held_turns none = fresh_turns 0
held_turns (some t) = turns_to (fresh_turns (senders t)) t

abbrev pub FewSenders : Option Turns → Type 0
FewSenders none = Unit {0}
FewSenders (some t) = (1 ≤ senders t) × (senders t ≤ most_senders)

pub record TurnsHeld (s : SenderTurns) (o : Option Turns) : Type 0 where
  pub are : s ≡ held_turns o
  pub few : FewSenders o
