-- `session_explain::numbers::number_of` meets its contract, reason by reason.
use mathlib.Core.Path.{sym, ap, ◌∙◌}
use Rattle.session_explain.specs.Numbers.{number_told}
use borrow.Author.Rules.{rules}
use Rattle.session_explain.proofs.numbers.number_of.Goals as goal

pub returns-in-ForeignSession : goal.returns-in-ForeignSession
returns-in-ForeignSession c = sym (ap number_told c.in-ForeignSession.is)

pub returns-in-SessionClosed : goal.returns-in-SessionClosed
returns-in-SessionClosed c = sym (ap number_told c.in-SessionClosed.is)

pub returns-in-DeclaredLimits : goal.returns-in-DeclaredLimits
returns-in-DeclaredLimits c = sym (ap number_told c.in-DeclaredLimits.is)

pub returns-in-Unreadable : goal.returns-in-Unreadable
returns-in-Unreadable c = c.reading_number.ensures ∙ sym (ap number_told c.in-Unreadable.is)

pub returns-in-HasFindings : goal.returns-in-HasFindings
returns-in-HasFindings c = sym (ap number_told c.in-HasFindings.is)

pub returns-in-CountsDiffer : goal.returns-in-CountsDiffer
returns-in-CountsDiffer c = sym (ap number_told c.in-CountsDiffer.is)

pub returns-in-ReferencesOver : goal.returns-in-ReferencesOver
returns-in-ReferencesOver c = sym (ap number_told c.in-ReferencesOver.is)

pub returns-in-UnknownTarget : goal.returns-in-UnknownTarget
returns-in-UnknownTarget c = sym (ap number_told c.in-UnknownTarget.is)

pub returns-in-CursorMismatch : goal.returns-in-CursorMismatch
returns-in-CursorMismatch c = sym (ap number_told c.in-CursorMismatch.is)

pub returns-in-OperationFails : goal.returns-in-OperationFails
returns-in-OperationFails c = c.operation_number.ensures ∙ sym (ap number_told c.in-OperationFails.is)
