-- `no_group` meets its contract.
use mathlib.Core.Path.{ap}
use Rattle.c_answers.specs.GroupNumbers.{group_with}
use borrow.Author.Rules.{rules}
use Rattle.c_answers.proofs.groups.no_group.Goals as goal

pub returns : goal.returns
returns c = ap (group_with 0 0 0) c.unanswered-answer.ensures
