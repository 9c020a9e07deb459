-- `rows_at` meets its contract: the lengths, then the count.
use Rattle.std.proofs.Common.{arith}
use Rattle.std.proofs.lemmas.Grind.{common_steps}
use Rattle.session_lent.specs.LentSession.{table_shaped}
use Rattle.session_lent_views.specs.Views.{table_rows}
use Rattle.session_lent_views.proofs.tables.rows_at.Goals as goal

pub returns-then-head-ne-NUMBERS : goal.returns-then-head-ne-NUMBERS
unfolding table_shaped table_rows
returns-then-head-ne-NUMBERS c = grind (arith, common_steps)

pub returns-then-capacity-count : goal.returns-then-capacity-count
unfolding table_shaped table_rows
returns-then-capacity-count c = grind (arith, common_steps)

pub returns : goal.returns
unfolding table_shaped table_rows
returns c = grind (arith, common_steps)
