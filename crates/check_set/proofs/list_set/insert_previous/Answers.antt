-- `check_set::list_set::insert_previous` meets its contract.
use mathlib.Core.Path.{ap, ◌∙◌}
use mathlib.Core.List.{List}
use Rattle.spec_checks.specs.Finding.{Finding}
use Rattle.check_findings.specs.InsertFindings.{inserted_all}
use Rattle.check_set.specs.Listed.{previous_listed}
use borrow.Author.Rules.{rules}
use Rattle.check_set.proofs.list_set.insert_previous.Goals as goal

pub returns-in-None : goal.returns-in-None
unfolding inserted_all previous_listed
returns-in-None c = record { counted = rw c.in-None.is; numbers = rw c.in-None.is }

pub returns-in-Some : goal.returns-in-Some
unfolding previous_listed
returns-in-Some c =
    record { counted = c.insert_pair_findings.ensures.counted ∙ ap (λ (l : List Finding). (inserted_all l c.args.kept c.args.records.now).0) c.pair_findings-findings.ensures ∙ rw c.in-Some.is; numbers = c.insert_pair_findings.ensures.numbers ∙ ap (λ (l : List Finding). (inserted_all l c.args.kept c.args.records.now).1) c.pair_findings-findings.ensures ∙ rw c.in-Some.is }
