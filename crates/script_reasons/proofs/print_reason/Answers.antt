-- `script_reasons::print_reason` meets its contract, case by case.
use Prim.Native.Nat.{ℕ}
use mathlib.Core.Path.{sym, ap}
use mathlib.Core.List.{List}
use Rattle.spec_listing.specs.Listing.{fields}
use Rattle.spec_replay.specs.Reasons.{reason_line}
use Rattle.bytes_printer.proofs.PrintsLaws.{◌⨾◌, prints_same}
use Rattle.session_explain.specs.declared.reasons.BatchExplanation.{BatchExplanation}
use Rattle.session_explain.specs.Meaning.{explanation_of}
use borrow.Author.Rules.{rules}
use Rattle.script_reasons.proofs.print_reason.Goals as goal

abbrev word : BatchExplanation → List ℕ
word x = reason_line (explanation_of x)

pub returns-in-None : goal.returns-in-None
unfolding fields reason_line
returns-in-None c = prints_same (sym (ap word c.in-None.is)) (c.print_byte-letter.ensures ⨾ c.print_field_u64-zero.ensures ⨾ c.print_newline.ensures)

pub returns-in-Withheld : goal.returns-in-Withheld
unfolding fields reason_line
returns-in-Withheld c = prints_same (sym (ap word c.in-Withheld.is)) (c.print_byte-letter-in-Withheld.ensures ⨾ c.print_field_u64-zero-in-Withheld.ensures ⨾ c.print_field_bytes-word.ensures ⨾ c.print_newline-in-Withheld.ensures)

pub returns-in-Given : goal.returns-in-Given
unfolding fields reason_line
returns-in-Given c = prints_same (sym (ap word c.in-Given.is)) c.print_given.ensures
