-- `check_findings::envelope_checks::sequence_finding` meets its contract: each answer follows from the tests before it.
use mathlib.Core.Path.{sym, ap, ◌∙◌}
use Prim.Native.Nat.{ℕ, ◌+◌}
use Rattle.check_findings.specs.EnvelopeChecksLaws.{overflow_is, duplicate_is, chain_is, out_of_order_is}
use Rattle.check_findings.proofs.envelope_checks.sequence_finding.Goals as goal

pub returns-then-last : goal.returns-then-last
returns-then-last c =
    c.report_if.ensures ∙ rw (c.raw-last.ensures, c.raw-last_id.ensures) (overflow_is _ _ (sym c.raw-last.ensures ∙ c.if-last.true))

pub returns-then-sequence-last : goal.returns-then-sequence-last
returns-then-sequence-last c =
    c.report_if-then-sequence-last.ensures ∙ rw (c.raw-sequence.ensures, c.raw-id.ensures) (duplicate_is _ _ (λ h. c.if-last.false (c.raw-last.ensures ∙ h)) (sym c.raw-sequence.ensures ∙ c.if-sequence-last.true ∙ c.raw-last.ensures))

pub returns-then-sequence-last-2 : goal.returns-then-sequence-last-2
returns-then-sequence-last-2 c =
    c.report_if-then-sequence-last-2.ensures ∙ rw (c.raw-previous.ensures, c.raw-revision.ensures, c.raw-id.ensures, c.raw-last_id.ensures)
    (chain_is _ _ (λ h. c.if-last.false (c.raw-last.ensures ∙ h)) (λ h. c.if-sequence-last.false (c.raw-sequence.ensures ∙ h ∙ sym c.raw-last.ensures)) (sym c.raw-sequence.ensures ∙ c.if-sequence-last-2.true ∙ ap (λ (n : ℕ). n + 1) c.raw-last.ensures))

pub returns : goal.returns
returns c =
    c.report_if-2.ensures ∙ rw (c.raw-sequence.ensures, c.raw-id.ensures)
    (out_of_order_is _ _ (λ h. c.if-last.false (c.raw-last.ensures ∙ h)) (λ h. c.if-sequence-last.false (c.raw-sequence.ensures ∙ h ∙ sym c.raw-last.ensures)) (λ h. c.if-sequence-last-2.false (c.raw-sequence.ensures ∙ h ∙ ap (λ (n : ℕ). n + 1) (sym c.raw-last.ensures))))
