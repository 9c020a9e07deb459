-- `page_to` meets its contract.
use mathlib.Core.Path.{sym, ap, ◌∙◌}
use Rattle.c_answers.specs.Counts.{refused_to}
use Rattle.c_answers.specs.Counts.{page_to}
use borrow.Author.Rules.{rules}
use Rattle.c_answers.proofs.counts.page_to.Goals as goal

pub returns-in-Ok : goal.returns-in-Ok
returns-in-Ok c = c.counted.ensures ∙ ap page_to (sym c.in-Ok.is)

pub returns-in-Err : goal.returns-in-Err
returns-in-Err c = c.refused.ensures ∙ ap refused_to c.number.ensures ∙ ap page_to (sym c.in-Err.is)
