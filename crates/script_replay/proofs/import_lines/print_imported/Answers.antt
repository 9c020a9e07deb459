-- `script_replay::import_lines::print_imported` meets its contract: the answer is printed, and the set from the lent bytes.
use borrow.Author.Rules.{rules}
use Rattle.script_replay.proofs.import_lines.print_imported.Goals as goal

pub returns : goal.returns
returns c =
    c.print_import.ensures _ (record { lent = c.args.lent.now; answered = c.import_terms-answer.ensures.value; written = c.import_terms-answer.ensures.out_after })
