-- `check_set::list_patch::list_head` meets its contract: the finding of no operations, then those of the envelope.
use mathlib.Core.Path.{ap, ap₂, ◌∙◌}
use Prim.Native.Nat.{ℕ}
use mathlib.Core.List.{List, ◌++◌}
use lib.Dec.{eqb}
use Rattle.spec_checks.specs.Finding.{Finding, kind_number, report}
use Rattle.check_findings.specs.EnvelopeChecks.{envelope_row}
use Rattle.check_findings.specs.InsertFindings.{inserted_all}
use Rattle.check_findings.specs.InsertFindingsLaws.{inserted_then}
use Rattle.check_set.specs.Listed.{head_findings}
use borrow.Author.Rules.{rules}
use Rattle.check_set.proofs.list_patch.list_head.Goals as goal

pub returns : goal.returns
unfolding head_findings kind_number
returns c =
    let both = inserted_then _ _ _ _ _ _ _ _ (c.insert_optional-one.ensures.counted, c.insert_optional-one.ensures.numbers) (c.insert_envelope_findings.ensures.counted, c.insert_envelope_findings.ensures.numbers) in
    let one = c.report_if-empty.ensures ∙ ap (λ (n : ℕ). report (eqb c.args.head.operation_count 0) (envelope_row 6 n 0)) c.raw-id.ensures in
    let lists = ap₂ ◌++◌ one c.envelope_findings-findings.ensures in
    record { counted = both.0 ∙ ap (λ (l : List Finding). (inserted_all l 0 c.args.records.now).0) lists; numbers = both.1 ∙ ap (λ (l : List Finding). (inserted_all l 0 c.args.records.now).1) lists }
