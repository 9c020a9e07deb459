-- `outcome_number` meets its contract, case by case.
use mathlib.Core.Path.{sym, ap, ◌∙◌}
use borrow.Author.Rules.{rules}
use Rattle.panel_application.specs.Application.{outcome_number}
use Rattle.panel_application.proofs.outcome_number.Goals as goal

pub returns-in-Ok : goal.returns-in-Ok
unfolding outcome_number
returns-in-Ok c = sym (ap outcome_number c.in-Ok.is)

pub returns-in-Err : goal.returns-in-Err
unfolding outcome_number
returns-in-Err c = c.number.ensures ∙ sym (ap outcome_number c.in-Err.is)
