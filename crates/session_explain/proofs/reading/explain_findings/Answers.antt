-- `session_explain::reading::explain_findings` meets its contract: what the check answers and writes gives the reason.
use mathlib.Core.Path.{sym, ap, ◌∙◌}
use mathlib.Core.List.{[], ◌∷◌}
use Rattle.check_set.specs.CheckAnswers.{check_answer, check_numbers}
use Rattle.session_explain.specs.StepsLaws.{findings_none, findings_first, findings_unread}
use borrow.Author.Rules.{rules}
use Rattle.session_explain.proofs.reading.explain_findings.Goals as goal

pub returns-then-logical-eq0 : goal.returns-then-logical-eq0
returns-then-logical-eq0 c = λ ps r. findings_none ps (sym c.in-Ok.is ∙ c.check.ensures.answered ∙ ap (λ x. check_answer x 3) r) c.if-logical-eq0.true

pub returns-else-logical-eq0 : goal.returns-else-logical-eq0
returns-else-logical-eq0 c = λ ps r. findings_first ps (sym c.in-Ok.is ∙ c.check.ensures.answered ∙ ap (λ x. check_answer x 3) r) c.if-logical-eq0.false _ (c.check.ensures.written ∙ ap (λ x. check_numbers x (0 ∷ 0 ∷ 0 ∷ [])) r)

pub returns-in-Err : goal.returns-in-Err
returns-in-Err c = λ ps r. findings_unread ps (sym c.in-Err.is ∙ c.check.ensures.answered ∙ ap (λ x. check_answer x 3) r)
