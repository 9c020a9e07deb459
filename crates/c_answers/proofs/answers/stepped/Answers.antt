-- `stepped` meets its contract.
use mathlib.Core.Path.{sym, ap, ◌∙◌}
use Rattle.c_answers.specs.Answers.{step_told}
use borrow.Author.Rules.{rules}
use Rattle.c_answers.proofs.answers.stepped.Goals as goal

pub returns-in-Some : goal.returns-in-Some
returns-in-Some c = c.step_of.ensures ∙ ap step_told (sym c.in-Some.is)

pub returns-in-None : goal.returns-in-None
returns-in-None c = c.no_step.ensures ∙ ap step_told (sym c.in-None.is)
