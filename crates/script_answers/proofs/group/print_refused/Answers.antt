-- `script_answers::group::print_refused` meets its contract: a line of its own, and that of the refused batch.
use borrow.Author.Rules.{rules}
use Rattle.spec_listing.specs.Listing.{fields}
use Rattle.spec_replay.specs.Answers.{group_lines}
use Rattle.bytes_printer.proofs.PrintsLaws.{◌⨾◌}
use Rattle.script_answers.proofs.group.print_refused.Goals as goal

pub returns : goal.returns
unfolding group_lines fields
returns c =
    (c.print_byte-letter.ensures ⨾ c.print_field_u64-zero.ensures ⨾ c.print_field_u64-none.ensures ⨾ c.print_field_u64-told.ensures ⨾ c.print_newline-line.ensures) ⨾ c.print_batch.ensures
