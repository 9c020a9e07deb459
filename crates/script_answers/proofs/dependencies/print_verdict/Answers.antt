-- `script_answers::dependencies::print_verdict` meets its contract: the letter, 0, the word, two numbers and the end of the line.
use borrow.Author.Rules.{rules}
use Rattle.spec_listing.specs.Listing.{fields}
use Rattle.bytes_printer.proofs.PrintsLaws.{◌⨾◌}
use Rattle.script_answers.proofs.dependencies.print_verdict.Goals as goal

pub returns : goal.returns
unfolding fields
returns c =
    c.print_byte-letter.ensures ⨾ c.print_field_u64-zero.ensures ⨾ c.print_field_bytes-told.ensures ⨾ c.print_field_u64-one.ensures ⨾ c.print_field_u64-two.ensures ⨾ c.print_newline.ensures
