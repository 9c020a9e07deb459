-- `script_answers::value::print_none` meets its contract: a dash and the end of the line.
use borrow.Author.Rules.{rules}
use Rattle.spec_listing.specs.Listing.{fields}
use Rattle.bytes_printer.proofs.PrintsLaws.{◌⨾◌}
use Rattle.script_answers.proofs.value.print_none.Goals as goal

pub returns : goal.returns
unfolding fields
returns c =
    c.print_field_bytes-none.ensures ⨾ c.print_newline.ensures
