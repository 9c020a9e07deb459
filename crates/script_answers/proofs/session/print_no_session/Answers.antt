-- `script_answers::session::print_no_session` meets its contract: the letter and the end of the line.
use borrow.Author.Rules.{rules}
use Rattle.spec_listing.specs.Listing.{fields}
use Rattle.spec_replay.specs.Answers.{no_session_line}
use Rattle.bytes_printer.proofs.PrintsLaws.{◌⨾◌}
use Rattle.script_answers.proofs.session.print_no_session.Goals as goal

pub returns : goal.returns
unfolding no_session_line fields
returns c =
    c.print_byte-letter.ensures ⨾ c.print_newline.ensures
