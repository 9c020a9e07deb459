-- `c_answers::figures::rule_place` meets its contract, case by case.
use mathlib.Core.Path.{sym, ap, ◌∙◌}
use Rattle.session_explain.specs.declared.reasons.BatchReason.{BatchReason}
use Rattle.session_explain.specs.Meaning.{printed_reason_of}
use Rattle.c_answers.specs.Explanations.{rule_place}
use borrow.Author.Rules.{rules}
use Rattle.c_answers.proofs.figures.rule_place.Goals as goal

pub returns-in-ForeignSession : goal.returns-in-ForeignSession
returns-in-ForeignSession c = c.no_place.ensures ∙ sym (ap (λ (x : BatchReason). rule_place (printed_reason_of x)) c.in-ForeignSession.is)

pub returns-in-SessionClosed : goal.returns-in-SessionClosed
returns-in-SessionClosed c = c.no_place-in-SessionClosed.ensures ∙ sym (ap (λ (x : BatchReason). rule_place (printed_reason_of x)) c.in-SessionClosed.is)

pub returns-in-DeclaredLimits : goal.returns-in-DeclaredLimits
returns-in-DeclaredLimits c = c.no_place-in-DeclaredLimits.ensures ∙ sym (ap (λ (x : BatchReason). rule_place (printed_reason_of x)) c.in-DeclaredLimits.is)

pub returns-in-Unreadable : goal.returns-in-Unreadable
returns-in-Unreadable c = c.inside_place.ensures ∙ sym (ap (λ (x : BatchReason). rule_place (printed_reason_of x)) c.in-Unreadable.is)

pub returns-in-HasFindings : goal.returns-in-HasFindings
returns-in-HasFindings c = c.findings_place.ensures ∙ sym (ap (λ (x : BatchReason). rule_place (printed_reason_of x)) c.in-HasFindings.is)

pub returns-in-CountsDiffer : goal.returns-in-CountsDiffer
returns-in-CountsDiffer c = c.no_place-in-CountsDiffer.ensures ∙ sym (ap (λ (x : BatchReason). rule_place (printed_reason_of x)) c.in-CountsDiffer.is)

pub returns-in-ReferencesOver : goal.returns-in-ReferencesOver
returns-in-ReferencesOver c = c.no_place-in-ReferencesOver.ensures ∙ sym (ap (λ (x : BatchReason). rule_place (printed_reason_of x)) c.in-ReferencesOver.is)

pub returns-in-UnknownTarget : goal.returns-in-UnknownTarget
returns-in-UnknownTarget c = c.operation_place.ensures ∙ sym (ap (λ (x : BatchReason). rule_place (printed_reason_of x)) c.in-UnknownTarget.is)

pub returns-in-CursorMismatch : goal.returns-in-CursorMismatch
returns-in-CursorMismatch c = c.no_place-in-CursorMismatch.ensures ∙ sym (ap (λ (x : BatchReason). rule_place (printed_reason_of x)) c.in-CursorMismatch.is)

pub returns-in-OperationFails : goal.returns-in-OperationFails
returns-in-OperationFails c = c.operation_place-in-OperationFails.ensures ∙ sym (ap (λ (x : BatchReason). rule_place (printed_reason_of x)) c.in-OperationFails.is)
