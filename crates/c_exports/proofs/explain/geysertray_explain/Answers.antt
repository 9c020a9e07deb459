-- `geysertray_explain` meets its contract: the edition is tested, and the call below is told it.
use mathlib.Core.Path.{sym, ◌∙◌}
use mathlib.Core.Bool.{false≢true}
use Rattle.c_exports.specs.Explain.{explained_as}
use borrow.Author.Rules.{rules}
use Rattle.c_exports.proofs.explain.geysertray_explain.Goals as goal

pub returns-then-is_edition : goal.returns-then-is_edition
returns-then-is_edition c =
    record {
      known = λ yes. explained_as _ _ _ _ _ _ _ _ _ _ _ c.edition_of-told.ensures c.explain_lent_batch-answer.result _ c.explain_lent_batch-answer.ensures c.lent_explanation_told.ensures;
      unknown = λ no. absurd (false≢true (sym no ∙ sym c.is_edition.ensures ∙ c.if-is_edition.true));
    }

pub returns : goal.returns
returns c = record {
  known = λ yes. absurd (false≢true (sym c.if-is_edition.false ∙ c.is_edition.ensures ∙ yes));
  unknown = λ no. c.not_explained.ensures;
}
