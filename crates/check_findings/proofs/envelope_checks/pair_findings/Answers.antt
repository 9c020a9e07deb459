-- `check_findings::envelope_checks::pair_findings` meets its contract.
use Rattle.spec_checks.specs.Finding.{kind_number}
use Rattle.spec_checks.specs.SetChecks.{pair_findings}
use Rattle.check_findings.proofs.envelope_checks.pair_findings.Goals as goal

pub returns : goal.returns
unfolding pair_findings kind_number
returns c =
    rw (
      c.report_if.ensures,
      c.report_if-2.ensures,
      c.report_if-3.ensures,
      c.sequence_finding.ensures,
      c.raw-6.ensures,
      c.raw-5.ensures,
      c.raw-4.ensures,
      c.raw-3.ensures,
      c.raw-2.ensures,
      c.raw.ensures,
      c.raw-last_id.ensures,
      c.raw-id.ensures,
    )
