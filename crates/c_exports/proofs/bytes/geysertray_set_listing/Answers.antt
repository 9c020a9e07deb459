-- `geysertray_set_listing` meets its contract: the edition is tested, and the call below is told it.
use mathlib.Core.Path.{sym, ap, ◌∙◌}
use Rattle.c_answers.specs.AskedLaws.{of_edition, of_no_edition}
use Rattle.c_answers.specs.Counts.{written_to}
use borrow.Author.Rules.{rules}
use Rattle.c_exports.proofs.bytes.geysertray_set_listing.Goals as goal

pub returns-then-is_edition : goal.returns-then-is_edition
returns-then-is_edition c =
    let known = sym c.is_edition.ensures ∙ c.if-is_edition.true in
    record { told = c.written_to.ensures ∙ ap written_to c.write_listing-answer.ensures.answer ∙ of_edition _ _ _ known c.edition_of.ensures; written = c.write_listing-answer.ensures.output ∙ of_edition _ _ _ known c.edition_of.ensures }

pub returns : goal.returns
returns c =
    let unknown = sym c.is_edition.ensures ∙ c.if-is_edition.false in
    record { told = c.not_counted.ensures ∙ of_no_edition _ _ _ unknown; written = of_no_edition _ _ _ unknown }
