-- `script_reasons::figures::print_none` meets its contract: the sign for none, and the end of the line.
use Rattle.spec_listing.specs.Listing.{fields}
use Rattle.bytes_printer.proofs.PrintsLaws.{◌⨾◌}
use borrow.Author.Rules.{rules}
use Rattle.script_reasons.proofs.figures.print_none.Goals as goal

pub returns : goal.returns
unfolding fields
returns c = c.print_field_bytes-none.ensures ⨾ c.print_newline.ensures
