-- `script_answers::paper::print_paper` meets its contract: the letter, 0, the number of bytes, the newline, and the bytes.
use borrow.Author.Rules.{rules}
use Rattle.spec_listing.specs.Listing.{fields}
use Rattle.bytes_printer.proofs.PrintsLaws.{◌⨾◌}
use Rattle.script_answers.proofs.paper.print_paper.Goals as goal

pub returns : goal.returns
unfolding fields
returns c =
    (c.print_byte-letter.ensures ⨾ c.print_field_u64-zero.ensures ⨾ c.print_field_u64-count.ensures ⨾ c.print_newline-line.ensures) ⨾ c.print_bytes.ensures
