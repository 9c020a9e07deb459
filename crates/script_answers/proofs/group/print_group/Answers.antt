-- `script_answers::group::print_group` meets its contract: no group, all taken, or the first that was refused.
use Prim.Native.Nat.{ℕ}
use mathlib.Core.Path.{sym, ap}
use mathlib.Core.List.{List}
use borrow.Author.Rules.{rules}
use Rattle.spec_replay.specs.Answers.{group_lines}
use Rattle.bytes_printer.proofs.PrintsLaws.{prints_same}
use Rattle.session_group.specs.Groups.{group_answer_of}
use Rattle.session_group.specs.declared.GroupAnswer.{GroupAnswer}
use Rattle.script_answers.proofs.group.print_group.Goals as goal

abbrev lines : GroupAnswer → List ℕ
lines x = group_lines (group_answer_of x)

pub returns-in-NotAGroup : goal.returns-in-NotAGroup
unfolding group_lines group_answer_of
returns-in-NotAGroup c =
    prints_same (sym (ap lines c.in-NotAGroup.is)) c.print_number_line.ensures

pub returns-in-Taken : goal.returns-in-Taken
unfolding group_answer_of
returns-in-Taken c =
    prints_same (sym (ap lines c.in-Taken.is)) c.print_taken.ensures

pub returns-in-RefusedAt : goal.returns-in-RefusedAt
unfolding group_answer_of
returns-in-RefusedAt c =
    prints_same (sym (ap lines c.in-RefusedAt.is)) c.print_refused.ensures
