-- `listing_lines::escapes::print_text_byte` meets its contract: the cases are those of the definition.
use native.Mathlib.Omega.{arith}
use borrow.Author.Rules.{rules}
use Rattle.bytes_printer.proofs.PrintsLaws.{prints_same}
use Rattle.listing_lines.proofs.TextBytes.{a_backslash, a_tab, a_newline, a_return, as_it_is}
use Rattle.listing_lines.proofs.escapes.print_text_byte.Goals as goal

pub returns-in-92 : goal.returns-in-92
returns-in-92 c = prints_same (a_backslash _ c.in-92.is) c.print_escape.ensures

pub returns-in-9 : goal.returns-in-9
returns-in-9 c = prints_same (a_tab _ (λ e. omega arith) c.in-9.is) c.print_escape-in-9.ensures

pub returns-in-10 : goal.returns-in-10
returns-in-10 c = prints_same (a_newline _ (λ e. omega arith) (λ e. omega arith) c.in-10.is) c.print_escape-in-10.ensures

pub returns-in-13 : goal.returns-in-13
returns-in-13 c = prints_same (a_return _ (λ e. omega arith) (λ e. omega arith) (λ e. omega arith) c.in-13.is) c.print_escape-in-13.ensures

pub returns-in_default : goal.returns-in_default
returns-in_default c = prints_same (as_it_is _ (search rules) (search rules) (search rules) (search rules)) c.print_byte.ensures
