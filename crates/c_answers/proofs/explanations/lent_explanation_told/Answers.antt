-- `c_answers::explanations::lent_explanation_told` meets its contract, case by case.
use mathlib.Core.Path.{sym, ap, ◌∙◌}
use Rattle.c_answers.specs.Explanations.{lent_explanation_told}
use borrow.Author.Rules.{rules}
use Rattle.c_answers.proofs.explanations.lent_explanation_told.Goals as goal

pub returns-in-Some : goal.returns-in-Some
returns-in-Some c = c.explanation_told.ensures ∙ sym (ap lent_explanation_told c.in-Some.is)

pub returns-in-None : goal.returns-in-None
returns-in-None c = c.not_explained.ensures ∙ sym (ap lent_explanation_told c.in-None.is)
