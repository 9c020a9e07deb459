-- `script_answers::value::print_availability` meets its contract: the byte where one was found, else a dash.
use mathlib.Core.List.{[], ◌∷◌}
use borrow.Author.Rules.{rules}
use Rattle.spec_decimal.specs.Decimal.{decimal}
use Rattle.spec_listing.specs.Listing.{fields}
use Rattle.bytes_printer.proofs.PrintsLaws.{◌⨾◌, prints_same}
use Rattle.script_answers.specs.LookupLines.{availability_lookup_line, found_line_lem, not_found_line}
use Rattle.script_answers.proofs.value.print_availability.Goals as goal

pub returns-then-lookup : goal.returns-then-lookup
unfolding availability_lookup_line fields
returns-then-lookup c =
    prints_same (found_line_lem _ ((65 ∷ []) ∷ decimal c.args.lookup.availability ∷ []) c.if-lookup.true)
    (c.print_byte-letter.ensures ⨾ c.print_field_bytes-kind.ensures ⨾ c.print_field_u64-number.ensures ⨾ c.print_newline.ensures)

pub returns : goal.returns
unfolding availability_lookup_line
returns c =
    prints_same (not_found_line _ ((65 ∷ []) ∷ decimal c.args.lookup.availability ∷ []) c.if-lookup.false) (c.print_byte-letter.ensures ⨾ c.print_none.ensures)
