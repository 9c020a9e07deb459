-- `script_reasons::figures::print_two` meets its contract: two fields, and the end of the line.
use Rattle.spec_listing.specs.Listing.{fields}
use Rattle.bytes_printer.proofs.PrintsLaws.{◌⨾◌}
use borrow.Author.Rules.{rules}
use Rattle.script_reasons.proofs.figures.print_two.Goals as goal

pub returns : goal.returns
unfolding fields
returns c = c.print_field_u64-first.ensures ⨾ c.print_field_u64-second.ensures ⨾ c.print_newline.ensures
