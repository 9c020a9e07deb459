-- `script_replay::dependency_lines::print_told` meets its contract: the answer is printed, and the records from the lent numbers.
use Rattle.spec_dependencies.proofs.AnswerLaws.{records_fit}
use Rattle.projection_patch.specs.Meaning.{edition_of}
use borrow.Author.Rules.{rules}
use Rattle.script_replay.proofs.dependency_lines.print_told.Goals as goal

pub returns : goal.returns
returns c =
    c.print_dependencies.ensures _ (record {
      answered = c.depends-answer.ensures.answered;
      written = c.depends-answer.ensures.written;
      counted = λ held lacked is. rw c.depends-answer.ensures.written (records_fit (edition_of c.args.edition) c.args.set.now c.args.lent.now held lacked is);
    })
