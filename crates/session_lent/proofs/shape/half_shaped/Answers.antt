-- `half_shaped` meets its contract: one test after the other.
use Rattle.std.proofs.Common.{arith}
use Rattle.std.proofs.lemmas.Grind.{common_steps}
use Rattle.session_lent.specs.LentSession.{half_shaped}
use Rattle.session_lent.proofs.shape.half_shaped.Goals as goal

pub returns-then-tables_fit : goal.returns-then-tables_fit
unfolding half_shaped
returns-then-tables_fit c = grind (arith, common_steps)

pub returns-else-tables_fit : goal.returns-else-tables_fit
unfolding half_shaped
returns-else-tables_fit c = grind (arith, common_steps)
