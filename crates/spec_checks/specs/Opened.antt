-- Every definition of the checks, opened at once for proofs that compute.
use Rattle.spec_checks.specs.Finding
use Rattle.spec_checks.specs.Target
use Rattle.spec_checks.specs.PatchChecks
use Rattle.spec_checks.specs.SetChecks
use Rattle.spec_checks.specs.Findings
use Rattle.spec_checks.specs.Answer

unfoldable pub opened_checks : Unit {0}
unfolding
    Rattle.spec_checks.specs.Finding.kind_number
    Rattle.spec_checks.specs.Finding.code_text
    Rattle.spec_checks.specs.Finding.finding_key
    Rattle.spec_checks.specs.Finding.report
    Rattle.spec_checks.specs.Finding.check_each
    Rattle.spec_checks.specs.Target.mutation_target
    Rattle.spec_checks.specs.Target.same_target
    Rattle.spec_checks.specs.PatchChecks.is_self
    Rattle.spec_checks.specs.PatchChecks.before_self_lem
    Rattle.spec_checks.specs.PatchChecks.operation_findings
    Rattle.spec_checks.specs.PatchChecks.envelope_findings
    Rattle.spec_checks.specs.PatchChecks.raw_patch_findings
    Rattle.spec_checks.specs.PatchChecks.patch_findings
    Rattle.spec_checks.specs.SetChecks.is_last_sequence
    Rattle.spec_checks.specs.SetChecks.is_same_sequence
    Rattle.spec_checks.specs.SetChecks.is_next_sequence
    Rattle.spec_checks.specs.SetChecks.sequence_findings
    Rattle.spec_checks.specs.SetChecks.pair_findings
    Rattle.spec_checks.specs.SetChecks.duplicate_id_findings
    Rattle.spec_checks.specs.SetChecks.previous_findings
    Rattle.spec_checks.specs.SetChecks.after_findings
    Rattle.spec_checks.specs.SetChecks.raw_set_findings
    Rattle.spec_checks.specs.SetChecks.set_findings
    Rattle.spec_checks.specs.Findings.first_findings
    Rattle.spec_checks.specs.Findings.findings
    Rattle.spec_checks.specs.Answer.finding_words
    Rattle.spec_checks.specs.Answer.fitting
    Rattle.spec_checks.specs.Answer.write_findings
    Rattle.spec_checks.specs.Answer.checked_list
opened_checks = tt
