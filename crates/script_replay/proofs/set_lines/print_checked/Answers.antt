-- `script_replay::set_lines::print_checked` meets its contract: the table has room for every record.
use Rattle.spec_lists.proofs.BytesLaws.{bytes_of}
use Rattle.projection_patch.specs.Meaning.{edition_of}
use borrow.Author.Rules.{rules}
use Rattle.script_replay.proofs.set_lines.print_checked.Goals as goal

pub returns : goal.returns
returns c =
    c.print_check.ensures (edition_of c.args.edition) c.args.set.now (record {
      bytes = bytes_of c.args.set.now (λ j. (c.type_inv.set j).fits);
      lent = _;
      room = search rules;
      answered = c.check-answer.ensures.answered;
      written = c.check-answer.ensures.written;
    })
