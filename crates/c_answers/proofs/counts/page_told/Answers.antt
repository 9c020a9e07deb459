-- `page_told` meets its contract.
use mathlib.Core.Path.{sym, ap, ◌∙◌}
use Rattle.c_answers.specs.Counts.{page_told}
use borrow.Author.Rules.{rules}
use Rattle.c_answers.proofs.counts.page_told.Goals as goal

pub returns-in-Some : goal.returns-in-Some
returns-in-Some c = c.page_to.ensures ∙ ap page_told (sym c.in-Some.is)

pub returns-in-None : goal.returns-in-None
returns-in-None c = c.not_counted.ensures ∙ ap page_told (sym c.in-None.is)
