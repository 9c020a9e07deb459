-- `check_findings::insert_findings::insert_optional` meets its contract: nothing, or one finding.
use Rattle.check_findings.specs.InsertFindings.{inserted_all}
use borrow.Author.Rules.{rules}
use Rattle.check_findings.proofs.insert_findings.insert_optional.Goals as goal

pub returns-in-None : goal.returns-in-None
unfolding inserted_all
returns-in-None c = record { counted = search rules; numbers = search rules }

pub returns-in-Some : goal.returns-in-Some
unfolding inserted_all
returns-in-Some c = record { counted = search rules; numbers = search rules }
