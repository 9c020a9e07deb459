-- `SenderTurns::fresh` meets its contract.
use Rattle.std.specs.Prelude.{refl}
use Rattle.session_turns.specs.Meaning.{fresh_turns}
use Rattle.session_turns.proofs.SenderTurns.fresh.Goals as goal

pub returns : goal.returns
unfolding fresh_turns
returns c = refl
