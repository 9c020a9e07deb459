-- `script_answers::value::print_value` meets its contract: the value where one was found, else a dash.
use borrow.Author.Rules.{rules}
use Rattle.bytes_printer.proofs.PrintsLaws.{◌⨾◌, prints_same}
use Rattle.listing_lines.specs.LookupFields.{lookup_fields}
use Rattle.script_answers.specs.LookupLines.{value_lookup_line, found_line_lem, not_found_line}
use Rattle.script_answers.proofs.value.print_value.Goals as goal

pub returns-then-lookup : goal.returns-then-lookup
unfolding value_lookup_line
returns-then-lookup c =
    prints_same (found_line_lem _ (lookup_fields c.args.lookup) c.if-lookup.true) (c.print_byte-letter.ensures ⨾ c.print_value.ensures)

pub returns : goal.returns
unfolding value_lookup_line
returns c =
    prints_same (not_found_line _ (lookup_fields c.args.lookup) c.if-lookup.false) (c.print_byte-letter.ensures ⨾ c.print_none.ensures)
