-- `script_answers::group::print_taken` meets its contract: the letter, 0, the number of batches, the cursor and the end of the line.
use borrow.Author.Rules.{rules}
use Rattle.spec_listing.specs.Listing.{fields}
use Rattle.spec_replay.specs.Answers.{group_lines}
use Rattle.bytes_printer.proofs.PrintsLaws.{◌⨾◌}
use Rattle.script_answers.proofs.group.print_taken.Goals as goal

pub returns : goal.returns
unfolding group_lines fields
returns c =
    c.print_byte-letter.ensures ⨾ c.print_field_u64-zero.ensures ⨾ c.print_field_u64-counted.ensures ⨾ c.print_cursor-told.ensures ⨾ c.print_newline.ensures
