-- `room_shaped` meets its contract: one test after the other.
use Rattle.std.proofs.Common.{arith}
use Rattle.std.proofs.lemmas.Grind.{common_steps}
use Rattle.session_lent.specs.Steps.{room_shaped}
use Rattle.session_lent.proofs.creation.room_shaped.Goals as goal

pub returns-then-lengths-eq-LENGTH_BYTES : goal.returns-then-lengths-eq-LENGTH_BYTES
unfolding room_shaped
returns-then-lengths-eq-LENGTH_BYTES c = grind (arith, common_steps)

pub returns-else-lengths-eq-LENGTH_BYTES : goal.returns-else-lengths-eq-LENGTH_BYTES
unfolding room_shaped
returns-else-lengths-eq-LENGTH_BYTES c = grind (arith, common_steps)
