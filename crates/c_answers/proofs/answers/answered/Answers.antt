-- `answered` meets its contract.
use mathlib.Core.Path.{sym, ap, ◌∙◌}
use Rattle.c_answers.specs.Answers.{batch_told}
use borrow.Author.Rules.{rules}
use Rattle.c_answers.proofs.answers.answered.Goals as goal

pub returns-in-Some : goal.returns-in-Some
returns-in-Some c = c.answer_of.ensures ∙ ap batch_told (sym c.in-Some.is)

pub returns-in-None : goal.returns-in-None
returns-in-None c = c.unanswered.ensures ∙ ap batch_told (sym c.in-None.is)
