-- `c_answers::explanations::explanation_told` meets its contract, case by case.
use mathlib.Core.Path.{sym, ap, ◌∙◌}
use Rattle.session_explain.specs.declared.reasons.BatchExplanation.{BatchExplanation}
use Rattle.session_explain.specs.Meaning.{explanation_of}
use Rattle.c_answers.specs.Explanations.{explanation_told}
use borrow.Author.Rules.{rules}
use Rattle.c_answers.proofs.explanations.explanation_told.Goals as goal

pub returns-in-None : goal.returns-in-None
returns-in-None c = c.not_explained.ensures ∙ sym (ap (λ (x : BatchExplanation). explanation_told (explanation_of x)) c.in-None.is)

pub returns-in-Withheld : goal.returns-in-Withheld
returns-in-Withheld c = c.not_explained-in-Withheld.ensures ∙ sym (ap (λ (x : BatchExplanation). explanation_told (explanation_of x)) c.in-Withheld.is)

pub returns-in-Given : goal.returns-in-Given
returns-in-Given c = c.reason_told.ensures ∙ sym (ap (λ (x : BatchExplanation). explanation_told (explanation_of x)) c.in-Given.is)
