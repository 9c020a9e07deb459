-- `script_answers::value::print_mark` meets its contract: the mark where something was found, else a dash.
use borrow.Author.Rules.{rules}
use Rattle.spec_listing.specs.Listing.{fields}
use Rattle.bytes_printer.proofs.PrintsLaws.{◌⨾◌, prints_same}
use Rattle.script_answers.specs.LookupLines.{mark_found, mark_not_found}
use Rattle.script_answers.proofs.value.print_mark.Goals as goal

pub returns-then-found : goal.returns-then-found
unfolding fields
returns-then-found c =
    prints_same (mark_found _ c.args.mark c.if-found.true) (c.print_byte-letter.ensures ⨾ c.print_field_u64-number.ensures ⨾ c.print_newline.ensures)

pub returns : goal.returns
returns c =
    prints_same (mark_not_found _ c.args.mark c.if-found.false) (c.print_byte-letter.ensures ⨾ c.print_none.ensures)
