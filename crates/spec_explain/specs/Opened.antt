-- Every definition that the examples compute through, by one name.
use Rattle.spec_patch.specs.Opened.{opened_sets}
use Rattle.spec_checks.specs.Opened.{opened_checks}
use Rattle.spec_projection.specs.Opened.{opened_panels}
use Rattle.spec_session.specs.Batch
use Rattle.spec_explain.specs.Locate
use Rattle.spec_explain.specs.OperationRule
use Rattle.spec_explain.specs.Walk
use Rattle.spec_explain.specs.Explain

unfoldable pub opened_reasons : Unit {0}
unfolding opened_sets opened_checks opened_panels
    Rattle.spec_session.specs.Batch.in_catalogue
    Rattle.spec_session.specs.Batch.absent_targets
    Rattle.spec_session.specs.Batch.takes_number
    Rattle.spec_explain.specs.Locate.by_row
    Rattle.spec_explain.specs.Locate.repeated
    Rattle.spec_explain.specs.Locate.locate_optional
    Rattle.spec_explain.specs.Locate.locate_quad
    Rattle.spec_explain.specs.Locate.locate_availability
    Rattle.spec_explain.specs.Locate.locate_text
    Rattle.spec_explain.specs.Locate.locate_score
    Rattle.spec_explain.specs.Locate.score_row
    Rattle.spec_explain.specs.Locate.locate_value
    Rattle.spec_explain.specs.Locate.locate_operation
    Rattle.spec_explain.specs.Locate.locate_envelope
    Rattle.spec_explain.specs.Locate.locate_patch
    Rattle.spec_explain.specs.Locate.locate_letters
    Rattle.spec_explain.specs.Locate.locate_patches
    Rattle.spec_explain.specs.Locate.at_end
    Rattle.spec_explain.specs.Locate.stop_of
    Rattle.spec_explain.specs.Locate.locate
    Rattle.spec_explain.specs.OperationRule.rule_of
    Rattle.spec_explain.specs.Walk.walk_operations
    Rattle.spec_explain.specs.Walk.walk_patches
    Rattle.spec_explain.specs.Walk.tested
    Rattle.spec_explain.specs.Explain.require_or
    Rattle.spec_explain.specs.Explain.which_limit
    Rattle.spec_explain.specs.Explain.over_declared
    Rattle.spec_explain.specs.Explain.patches_read
    Rattle.spec_explain.specs.Explain.patches_readable
    Rattle.spec_explain.specs.Explain.no_findings
    Rattle.spec_explain.specs.Explain.target_known
    Rattle.spec_explain.specs.Explain.targets_known
    Rattle.spec_explain.specs.Explain.next_number
    Rattle.spec_explain.specs.Explain.kept_projection
    Rattle.spec_explain.specs.Explain.step_kept
    Rattle.spec_explain.specs.Explain.applies
    Rattle.spec_explain.specs.Explain.explain_steps
    Rattle.spec_explain.specs.Explain.reason_of
    Rattle.spec_explain.specs.Explain.explain_batch
opened_reasons = tt
