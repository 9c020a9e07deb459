-- `script_reasons::figures::print_three` meets its contract: a field and two, and the end of the line.
use Rattle.spec_listing.specs.Listing.{fields}
use Rattle.bytes_printer.proofs.PrintsLaws.{◌⨾◌}
use borrow.Author.Rules.{rules}
use Rattle.script_reasons.proofs.figures.print_three.Goals as goal

pub returns : goal.returns
unfolding fields
returns c = c.print_field_u64-first.ensures ⨾ c.print_two.ensures
