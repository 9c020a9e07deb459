-- `check_table::push_finding` meets its contract: three numbers over the place that `shift_up` leaves free.
use lib.ListN.{length-set}
use Rattle.spec_checks.specs.Finding.{finding_key}
use Rattle.check_table.specs.FindingTableLaws.{pushed_three}
use borrow.Author.Rules.{rules}
use Rattle.check_table.proofs.push_finding.Goals as goal

pub bounds-s-1 : goal.bounds-s-1
bounds-s-1 c = simp length-set (search rules)

pub returns : goal.returns
unfolding finding_key
returns c = pushed_three c.args.s.now _ _ _ _ (search rules) c.shift_up.ensures
