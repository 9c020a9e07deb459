-- `check_table::compare` meets its contract: each answer follows from the tests before it.
use borrow.Author.Rules.{rules}
use Rattle.spec_checks.specs.Finding.{finding_key}
use Rattle.check_table.proofs.Orders.{order_below, order_above, second_below, second_above, third_below, third_above, all_same}
use Rattle.check_table.proofs.compare.Goals as goal

pub returns-then-own-other : goal.returns-then-own-other
unfolding finding_key
returns-then-own-other c = order_below _ _ _ _ (search rules)

pub returns-then-other-own : goal.returns-then-other-own
unfolding finding_key
returns-then-other-own c = order_above _ _ _ _ (search rules)

pub returns-then-own-other-2 : goal.returns-then-own-other-2
unfolding finding_key
returns-then-own-other-2 c = second_below _ _ _ _ _ _ (search rules) (search rules) (search rules)

pub returns-then-other-own-2 : goal.returns-then-other-own-2
unfolding finding_key
returns-then-other-own-2 c = second_above _ _ _ _ _ _ (search rules) (search rules) (search rules)

pub returns-then-own-other-3 : goal.returns-then-own-other-3
unfolding finding_key
returns-then-own-other-3 c = third_below _ _ _ _ _ _ (search rules) (search rules) (search rules) (search rules) (search rules)

pub returns-then-other-own-3 : goal.returns-then-other-own-3
unfolding finding_key
returns-then-other-own-3 c = third_above _ _ _ _ _ _ (search rules) (search rules) (search rules) (search rules) (search rules)

pub returns : goal.returns
unfolding finding_key
returns c = all_same _ _ _ _ _ _ (search rules) (search rules) (search rules) (search rules) (search rules) (search rules)
