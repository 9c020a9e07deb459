-- `script_answers::check::print_finding` meets its contract: the letter, three fields and the end of the line.
use borrow.Author.Rules.{rules}
use Rattle.spec_listing.specs.Listing.{fields}
use Rattle.spec_replay.specs.Answers.{finding_line}
use Rattle.bytes_printer.proofs.PrintsLaws.{◌⨾◌}
use Rattle.script_answers.proofs.check.print_finding.Goals as goal

pub returns : goal.returns
unfolding finding_line fields
returns c =
    c.print_byte-letter.ensures ⨾ c.print_field_u64-first.ensures ⨾ c.print_field_u64-second.ensures ⨾ c.print_field_u64-third.ensures ⨾ c.print_newline.ensures
