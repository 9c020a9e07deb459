-- `columns::print_line_break` meets its contract: the newline, then the spaces.
use borrow.Author.Rules.{rules}
use Rattle.bytes_printer.proofs.PrintsLaws.{◌⨾◌}
use Rattle.panel_print.proofs.columns.print_line_break.Goals as goal

pub returns : goal.returns
returns c =
    c.print_newline-line.ensures ⨾ c.print_spaces.ensures
