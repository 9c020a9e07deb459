-- `check_findings::envelope_checks::envelope_findings` meets its contract.
use Rattle.spec_checks.specs.Finding.{kind_number}
use Rattle.spec_checks.specs.PatchChecks.{envelope_findings}
use Rattle.check_findings.proofs.envelope_checks.envelope_findings.Goals as goal

pub returns : goal.returns
unfolding envelope_findings kind_number
returns c =
    rw (c.report_if.ensures, c.report_if-2.ensures, c.report_if-3.ensures, c.raw-revision.ensures, c.raw-previous.ensures, c.raw-stream.ensures, c.raw-id.ensures)
