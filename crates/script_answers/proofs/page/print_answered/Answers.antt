-- `script_answers::page::print_answered` meets its contract: the letter, 0, the number of keys, and their lines.
use borrow.Author.Rules.{rules}
use Rattle.spec_listing.specs.Listing.{fields}
use Rattle.bytes_printer.proofs.PrintsLaws.{◌⨾◌, ends_within}
use Rattle.script_answers.proofs.page.print_answered.Goals as goal

pub returns : goal.returns
unfolding fields
returns c =
    let head = c.print_byte-letter.ensures ⨾ c.print_field_u64-zero.ensures ⨾ c.print_field_u64-counted.ensures ⨾ c.print_newline-head.ensures in
    λ p k keys rest v counted is. head ⨾ c.print_rows.ensures p k keys rest v counted is (ends_within c.print_newline-head.ensures)
