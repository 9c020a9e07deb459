-- `script_reasons::figures::print_figures` meets its contract, reason by reason.
use Prim.Native.Nat.{ℕ}
use mathlib.Core.Path.{sym, ap}
use mathlib.Core.List.{List}
use Rattle.spec_listing.specs.Listing.{fields}
use Rattle.spec_replay.specs.Reasons.{figure_fields}
use Rattle.bytes_printer.proofs.PrintsLaws.{◌⨾◌, prints_same}
use Rattle.session_explain.specs.declared.reasons.BatchReason.{BatchReason}
use Rattle.session_explain.specs.Meaning.{printed_reason_of}
use borrow.Author.Rules.{rules}
use Rattle.script_reasons.proofs.figures.print_figures.Goals as goal

abbrev word : BatchReason → List ℕ
word x = fields (figure_fields (printed_reason_of x))

pub returns-in-ForeignSession : goal.returns-in-ForeignSession
unfolding fields figure_fields
returns-in-ForeignSession c = prints_same (sym (ap word c.in-ForeignSession.is)) c.print_two.ensures

pub returns-in-SessionClosed : goal.returns-in-SessionClosed
unfolding fields figure_fields
returns-in-SessionClosed c = prints_same (sym (ap word c.in-SessionClosed.is)) c.print_newline.ensures

pub returns-in-DeclaredLimits : goal.returns-in-DeclaredLimits
unfolding fields figure_fields
returns-in-DeclaredLimits c = prints_same (sym (ap word c.in-DeclaredLimits.is)) c.print_four.ensures

pub returns-in-Unreadable : goal.returns-in-Unreadable
unfolding fields figure_fields
returns-in-Unreadable c = prints_same (sym (ap word c.in-Unreadable.is)) (c.print_field_u64-byte.ensures ⨾ c.print_inside.ensures)

pub returns-in-HasFindings : goal.returns-in-HasFindings
unfolding fields figure_fields
returns-in-HasFindings c = prints_same (sym (ap word c.in-HasFindings.is)) (c.print_place-named.ensures ⨾ c.print_four-in-HasFindings.ensures)

pub returns-in-CountsDiffer : goal.returns-in-CountsDiffer
unfolding fields figure_fields
returns-in-CountsDiffer c = prints_same (sym (ap word c.in-CountsDiffer.is)) c.print_four-in-CountsDiffer.ensures

pub returns-in-ReferencesOver : goal.returns-in-ReferencesOver
unfolding fields figure_fields
returns-in-ReferencesOver c = prints_same (sym (ap word c.in-ReferencesOver.is)) c.print_two-in-ReferencesOver.ensures

pub returns-in-UnknownTarget : goal.returns-in-UnknownTarget
unfolding fields figure_fields
returns-in-UnknownTarget c = prints_same (sym (ap word c.in-UnknownTarget.is)) c.print_three.ensures

pub returns-in-CursorMismatch : goal.returns-in-CursorMismatch
unfolding fields figure_fields
returns-in-CursorMismatch c = prints_same (sym (ap word c.in-CursorMismatch.is)) c.print_takes.ensures

pub returns-in-OperationFails : goal.returns-in-OperationFails
unfolding fields figure_fields
returns-in-OperationFails c = prints_same (sym (ap word c.in-OperationFails.is)) c.print_two-in-OperationFails.ensures
