-- `dependencies_told` meets its contract.
use mathlib.Core.Path.{sym, ap, ◌∙◌}
use Rattle.c_answers.specs.Sets.{not_told, dependencies_told}
use borrow.Author.Rules.{rules}
use Rattle.c_answers.proofs.sets.dependencies_told.Goals as goal

pub returns-in-Never : goal.returns-in-Never
returns-in-Never c = c.never_by.ensures ∙ ap dependencies_told (sym c.in-Never.is)

pub returns-in-Needs : goal.returns-in-Needs
returns-in-Needs c = c.needs_keys.ensures ∙ ap dependencies_told (sym c.in-Needs.is)

pub returns-in-Refused : goal.returns-in-Refused
returns-in-Refused c = c.not_told.ensures ∙ ap (not_told 2) c.number.ensures ∙ ap dependencies_told (sym c.in-Refused.is)
