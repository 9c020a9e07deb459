-- `script_answers::dependencies::print_never` meets its contract: the word never.
use borrow.Author.Rules.{rules}
use Rattle.spec_replay.specs.Answers.{verdict_lines}
use Rattle.script_answers.proofs.dependencies.print_never.Goals as goal

pub returns : goal.returns
unfolding verdict_lines
returns c = λ words. c.print_verdict.ensures
