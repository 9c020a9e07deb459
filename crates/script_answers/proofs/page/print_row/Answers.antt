-- `script_answers::page::print_row` meets its contract: the position and the value where the key was found, else a dash.
use borrow.Author.Rules.{rules}
use Rattle.spec_listing.specs.Listing.{fields}
use Rattle.bytes_printer.proofs.PrintsLaws.{◌⨾◌, prints_same}
use Rattle.script_answers.specs.PageToldLaws.{row_found, row_not_found}
use Rattle.script_answers.proofs.page.print_row.Goals as goal

pub returns-then-found : goal.returns-then-found
unfolding fields
returns-then-found c =
    prints_same (row_found c.args.lookup c.if-found.true) (c.print_byte-letter.ensures ⨾ c.print_field_u64-position.ensures ⨾ c.print_value.ensures)

pub returns : goal.returns
returns c =
    prints_same (row_not_found c.args.lookup c.if-found.false) (c.print_byte-letter.ensures ⨾ c.print_none.ensures)
