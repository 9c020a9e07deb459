-- `script_answers::session::print_other` meets its contract: the character ? and the number.
use borrow.Author.Rules.{rules}
use Rattle.spec_replay.specs.Answers.{other_line}
use Rattle.script_answers.proofs.session.print_other.Goals as goal

pub returns : goal.returns
unfolding other_line
returns c = c.print_number_line.ensures
