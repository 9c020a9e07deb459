-- `geysertray_import_terms` meets its contract: the edition is tested, and the call below is told it.
use mathlib.Core.Path.{sym, ap, ◌∙◌}
use lib.ListN.{length}
use Rattle.spec_patch.specs.Patch.{Envelope}
use Rattle.spec_import.specs.Import.{import_terms}
use Rattle.projection_patch.specs.Meaning.{edition_of}
use Rattle.patch_import.specs.Answers.{import_answer, import_output}
use Rattle.c_answers.specs.AskedLaws.{of_edition, of_no_edition}
use Rattle.c_answers.specs.Counts.{import_told}
use borrow.Author.Rules.{rules}
use Rattle.c_exports.proofs.bytes.geysertray_import_terms.Goals as goal

pub returns-then-is_edition : goal.returns-then-is_edition
returns-then-is_edition c =
    let known = sym c.is_edition.ensures ∙ c.if-is_edition.true in
    let same = ap (λ (v : Envelope). import_terms (edition_of c.edition_of-told.result) c.args.collection v c.args.list.now (length c.args.out.now)) c.envelope_at-envelope.ensures in
    record { told = c.import_told.ensures ∙ ap import_told (c.import_terms-answer.ensures.value ∙ ap import_answer same) ∙ of_edition _ _ _ known c.edition_of-told.ensures; written = c.import_terms-answer.ensures.out_after ∙ ap (import_output c.args.out.now) same ∙ of_edition _ _ _ known c.edition_of-told.ensures }

pub returns : goal.returns
returns c =
    let unknown = sym c.is_edition.ensures ∙ c.if-is_edition.false in
    record { told = c.not_counted.ensures ∙ of_no_edition _ _ _ unknown; written = of_no_edition _ _ _ unknown }
