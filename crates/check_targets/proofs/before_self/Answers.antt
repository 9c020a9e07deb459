-- `check_targets::before_self` meets its contract.
use Rattle.spec_checks.specs.PatchChecks.{before_self_lem}
use borrow.Author.Rules.{rules}
use Rattle.check_targets.proofs.before_self.Goals as goal

pub returns-in-CollectionInsert : goal.returns-in-CollectionInsert
unfolding before_self_lem
returns-in-CollectionInsert c = search rules

pub returns-in-CollectionMove : goal.returns-in-CollectionMove
unfolding before_self_lem
returns-in-CollectionMove c = search rules

pub returns-in_default : goal.returns-in_default
unfolding before_self_lem
returns-in_default c = search rules
