-- `check_findings::envelope_checks::report_if` meets its contract.
use Rattle.std.proofs.Common.{ap, ◌∙◌}
use Rattle.check_findings.specs.EnvelopeChecks.{optional_listed}
use Rattle.check_findings.specs.EnvelopeChecksLaws.{reported}
use Rattle.check_findings.proofs.envelope_checks.report_if.Goals as goal

pub returns : goal.returns
returns c = ap optional_listed c.then_some.ensures ∙ reported _ _
