-- `ProjectionRefusal::number` meets its contract, case by case.
use mathlib.Core.Path.{sym, ap, ◌∙◌}
use borrow.Author.Rules.{rules}
use Rattle.panel_application.specs.Application.{refusal_number}
use Rattle.panel_application.proofs.ProjectionRefusal.number.Goals as goal

pub returns-in-Operation : goal.returns-in-Operation
unfolding refusal_number
returns-in-Operation c = c.number.ensures ∙ sym (ap refusal_number c.in-Operation.is)

pub returns-in-Findings : goal.returns-in-Findings
unfolding refusal_number
returns-in-Findings c = sym (ap refusal_number c.in-Findings.is)

pub returns-in-Unreadable : goal.returns-in-Unreadable
unfolding refusal_number
returns-in-Unreadable c = c.number-in-Unreadable.ensures ∙ sym (ap refusal_number c.in-Unreadable.is)
