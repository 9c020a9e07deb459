-- `check_told` meets its contract.
use mathlib.Core.Path.{sym, ap, ◌∙◌}
use Rattle.c_answers.specs.Sets.{unchecked_set, check_told}
use borrow.Author.Rules.{rules}
use Rattle.c_answers.proofs.sets.check_told.Goals as goal

pub returns-in-Ok : goal.returns-in-Ok
returns-in-Ok c = c.checked_at.ensures ∙ ap check_told (sym c.in-Ok.is)

pub returns-in-Err : goal.returns-in-Err
returns-in-Err c = c.unchecked.ensures ∙ ap (unchecked_set 2) c.number.ensures ∙ ap check_told (sym c.in-Err.is)
