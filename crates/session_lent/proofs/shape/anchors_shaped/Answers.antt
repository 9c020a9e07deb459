-- `anchors_shaped` meets its contract: one test after the other.
use Rattle.std.proofs.Common.{arith}
use Rattle.std.proofs.lemmas.Grind.{common_steps}
use Rattle.session_lent.specs.LentSession.{anchors_shaped}
use Rattle.session_lent.proofs.shape.anchors_shaped.Goals as goal

pub returns-then-pairs-eq0 : goal.returns-then-pairs-eq0
unfolding anchors_shaped
returns-then-pairs-eq0 c = grind (arith, common_steps)

pub returns-else-pairs-eq0 : goal.returns-else-pairs-eq0
unfolding anchors_shaped
returns-else-pairs-eq0 c = grind (arith, common_steps)
