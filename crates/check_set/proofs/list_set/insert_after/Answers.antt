-- `check_set::list_set::insert_after` meets its contract: finding 4, then those of the patch just before.
use mathlib.Core.Path.{ap, ap₂, ◌∙◌}
use Prim.Native.Nat.{ℕ}
use mathlib.Core.Bool.{Bool}
use mathlib.Core.List.{List, ◌++◌}
use lib.ListN.{take, set}
use Rattle.spec_checks.specs.Finding.{Finding, kind_number, report}
use Rattle.projection_patch.specs.Meaning.{envelope_of}
use Rattle.check_findings.specs.EnvelopeChecks.{envelope_row}
use Rattle.check_findings.specs.Ids.{id_seen}
use Rattle.check_findings.specs.InsertFindings.{inserted_all}
use Rattle.check_findings.specs.InsertFindingsLaws.{inserted_then}
use Rattle.check_quick.specs.QuickAnswers.{previous_of}
use Rattle.check_set.specs.Listed.{previous_listed, after_listed}
use borrow.Author.Rules.{rules}
use Rattle.check_set.proofs.list_set.insert_after.Goals as goal

pub returns : goal.returns
unfolding after_listed kind_number
returns c =
    let e = envelope_of c.args.envelope in
    let both = inserted_then _ _ _ _ _ _ _ _ (c.insert_optional-more.ensures.counted, c.insert_optional-more.ensures.numbers) (c.insert_previous.ensures.counted, c.insert_previous.ensures.numbers) in
    let seen = c.id_before-seen.ensures.seen ∙ ap (λ (n : ℕ). id_seen n (take c.args.used c.args.ids.now)) c.raw-id.ensures in
    let rows = ap₂ (λ (n q : ℕ). report (id_seen e.id (take c.args.used c.args.ids.now)) (envelope_row 4 n q)) c.raw-id.ensures c.raw-sequence.ensures in
    let list = ap (λ (l : List Finding). l ++ previous_listed (previous_of c.args.previous) e) (c.report_if-finding.ensures ∙ ap (λ (t : Bool). report t (envelope_row 4 c.raw-id.result c.raw-sequence.result)) seen ∙ rows) in record { counted = both.0 ∙ ap (λ (l : List Finding). (inserted_all l c.args.kept c.args.records.now).0) list; numbers = both.1 ∙ ap (λ (l : List Finding). (inserted_all l c.args.kept c.args.records.now).1) list; remembered = c.id_before-seen.ensures.kept ∙ ap (λ (n : ℕ). set c.args.ids.now c.args.used n) c.raw-id.ensures }
