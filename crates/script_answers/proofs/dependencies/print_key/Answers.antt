-- `script_answers::dependencies::print_key` meets its contract: the letter, two fields and the end of the line.
use borrow.Author.Rules.{rules}
use Rattle.spec_listing.specs.Listing.{fields}
use Rattle.spec_replay.specs.Answers.{key_line}
use Rattle.bytes_printer.proofs.PrintsLaws.{◌⨾◌}
use Rattle.script_answers.proofs.dependencies.print_key.Goals as goal

pub returns : goal.returns
unfolding key_line fields
returns c =
    c.print_byte-letter.ensures ⨾ c.print_field_u64-first.ensures ⨾ c.print_field_u64-second.ensures ⨾ c.print_newline.ensures
