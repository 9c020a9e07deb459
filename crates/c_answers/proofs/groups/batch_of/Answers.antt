-- `batch_of` meets its contract: one number after the other.
use lib.ListN.{get_or}
use Rattle.c_answers.specs.GroupNumbers.{batch_of_numbers}
use borrow.Author.Rules.{rules}
use Rattle.c_answers.proofs.groups.batch_of.Goals as goal

pub returns : goal.returns
unfolding batch_of_numbers
returns c =
    λ i. record {
      edition = c.edition_of-edition.ensures i;
      envelope = record { session = get_or c.args.numbers.now 0 0; sequence = get_or c.args.numbers.now 1 0; patches = get_or c.args.numbers.now 2 0; stimulus_bytes = get_or c.args.numbers.now 3 0 };
      references = get_or c.args.numbers.now 4 0;
      bytes = get_or c.args.numbers.now 6 0;
    }
