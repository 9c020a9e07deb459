-- Which finding of the sequence there is, by the tests that are made one after the other.
use Rattle.std.specs.Prelude.{◌+◌, ◌≡◌, refl, Bool, true, false, not, ◌≢◌, eqb}
use Rattle.std.specs.Bool.{then_some}
use borrow.Author.Tests.{eq-eqb, ne_eqb}
use Rattle.spec_patch.specs.Sizes.{largest_u64}
use Rattle.spec_patch.specs.Patch.{Envelope}
use Rattle.spec_checks.specs.Finding.{kind_number, report}
use Rattle.spec_checks.specs.SetChecks.{is_last_sequence, is_same_sequence, is_next_sequence, sequence_findings}
use Rattle.check_table.specs.declared.Finding as code
use Rattle.check_table.specs.FindingTable.{finding_of}
use Rattle.check_findings.specs.EnvelopeChecks.{envelope_row, optional_listed}

pub reported : (t : Bool) (f : code.Finding) → optional_listed (then_some t f) ≡ report t (finding_of f)
unfolding report
reported true f = refl
reported false f = refl

module _ (q e : Envelope) where
  pub overflow_is : q.sequence ≡ largest_u64 → report true (envelope_row 12 q.id q.sequence) ≡ sequence_findings q e
  unfolding sequence_findings is_last_sequence report kind_number
  overflow_is h = rw (eq-eqb q.sequence largest_u64 h)

  module _ (more : q.sequence ≢ largest_u64) where
    pub duplicate_is : e.sequence ≡ q.sequence → report true (envelope_row 5 e.id e.sequence) ≡ sequence_findings q e
    unfolding sequence_findings is_last_sequence is_same_sequence report kind_number
    duplicate_is h = rw (ne_eqb q.sequence largest_u64 more, eq-eqb e.sequence q.sequence h)

    module _ (other : e.sequence ≢ q.sequence) where
      pub chain_is : e.sequence ≡ q.sequence + 1 → report (not (eqb e.previous q.revision)) (envelope_row 1 e.id q.id) ≡ sequence_findings q e
      unfolding sequence_findings is_last_sequence is_same_sequence is_next_sequence kind_number
      chain_is h = rw (ne_eqb q.sequence largest_u64 more, ne_eqb e.sequence q.sequence other, eq-eqb e.sequence (q.sequence + 1) h)

      pub out_of_order_is : e.sequence ≢ q.sequence + 1 → report true (envelope_row 11 e.id e.sequence) ≡ sequence_findings q e
      unfolding sequence_findings is_last_sequence is_same_sequence is_next_sequence report kind_number
      out_of_order_is h = rw (ne_eqb q.sequence largest_u64 more, ne_eqb e.sequence q.sequence other, ne_eqb e.sequence (q.sequence + 1) h)
