-- `count_told` meets its contract.
use mathlib.Core.Path.{sym, ap, ◌∙◌}
use Rattle.c_answers.specs.Counts.{count_told}
use borrow.Author.Rules.{rules}
use Rattle.c_answers.proofs.counts.count_told.Goals as goal

pub returns-in-Some : goal.returns-in-Some
returns-in-Some c = c.counted.ensures ∙ ap count_told (sym c.in-Some.is)

pub returns-in-None : goal.returns-in-None
returns-in-None c = c.not_counted.ensures ∙ ap count_told (sym c.in-None.is)
