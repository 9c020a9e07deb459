-- `check_targets::put_target` meets its contract: three stores.
use lib.ListN.{length-set}
use Rattle.check_targets.specs.Targets.{with_target}
use Rattle.check_targets.specs.TargetsLaws.{three_stored}
use borrow.Author.Rules.{rules}
use Rattle.check_targets.proofs.put_target.Goals as goal

pub bounds-targets-used-2 : goal.bounds-targets-used-2
bounds-targets-used-2 c = simp length-set (search rules)

pub bounds-targets-used-3 : goal.bounds-targets-used-3
bounds-targets-used-3 c = simp length-set (search rules)

pub returns : goal.returns
unfolding with_target
returns c = three_stored c.args.targets.now c.args.used _ _ _ (search rules)
