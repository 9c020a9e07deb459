-- `check_set::list_operations::insert_operation` meets its contract: two findings in their order.
use mathlib.Core.Path.{ap, ap₂, ◌∙◌}
use mathlib.Core.List.{List, ◌++◌}
use Rattle.spec_checks.specs.Finding.{Finding}
use Rattle.check_findings.specs.InsertFindings.{inserted_all}
use Rattle.check_findings.specs.InsertFindingsLaws.{inserted_then}
use borrow.Author.Rules.{rules}
use Rattle.check_set.proofs.list_operations.insert_operation.Goals as goal

pub returns : goal.returns
returns c =
    let both = inserted_then _ _ _ _ _ _ _ _ (c.insert_optional-more.ensures.counted, c.insert_optional-more.ensures.numbers) (c.insert_optional.ensures.counted, c.insert_optional.ensures.numbers) in
    let lists = ap₂ ◌++◌ c.report_if-self_finding.ensures c.report_if-seen_finding.ensures in
    record { counted = both.0 ∙ ap (λ (l : List Finding). (inserted_all l c.args.kept c.args.records.now).0) lists; numbers = both.1 ∙ ap (λ (l : List Finding). (inserted_all l c.args.kept c.args.records.now).1) lists }
