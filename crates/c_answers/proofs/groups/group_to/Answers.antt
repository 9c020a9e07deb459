-- `group_to` meets its contract.
use mathlib.Core.Path.{sym, ap, ◌∙◌}
use Rattle.c_answers.specs.GroupNumbers.{group_with, group_to}
use borrow.Author.Rules.{rules}
use Rattle.c_answers.proofs.groups.group_to.Goals as goal

pub returns-in-NotAGroup : goal.returns-in-NotAGroup
returns-in-NotAGroup c = c.group_of.ensures ∙ ap (group_with 0 0 c.args.half) c.not_a_group.ensures ∙ ap (group_to c.args.half) (sym c.in-NotAGroup.is)

pub returns-in-Taken : goal.returns-in-Taken
returns-in-Taken c = c.group_of-in-Taken.ensures ∙ ap (group_with c.in-Taken.count 0 c.args.half) c.taken_to.ensures ∙ ap (group_to c.args.half) (sym c.in-Taken.is)

pub returns-in-RefusedAt : goal.returns-in-RefusedAt
returns-in-RefusedAt c = c.group_of-in-RefusedAt.ensures ∙ ap (group_with 0 c.in-RefusedAt.place c.args.half) c.answer_of.ensures ∙ ap (group_to c.args.half) (sym c.in-RefusedAt.is)
