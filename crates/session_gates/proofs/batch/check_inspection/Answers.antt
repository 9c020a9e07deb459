-- `check_inspection` meets its contract: the refusals of the pass, then the counts, then the targets and the cursor.
use Rattle.std.proofs.Common.{sym, ◌∙◌}
use Rattle.projection_patch.specs.ReadAnswers.{fault_of}
use Rattle.projection_patch.specs.declared.read_values.ProjectionPatchReadFault.{ProjectionPatchReadFault}
use Rattle.projection_patch.specs.declared.read_values.ProjectionPatchReadFault.TheVariants.{Malformed, OverCapacity}
use Rattle.spec_session.specs.Diagnostics.{of_reading}
use Rattle.spec_session.specs.Batch.{refuse}
use Rattle.std.specs.Prelude.{◌≡◌, refl, Err}
use Rattle.session_gates.specs.Gates.{gate_of, step_of, reading_refused, inspection_by, targets_by}
use Rattle.session_gates.proofs.GatesLaws.{handed_on, one_handed_on}
use Rattle.session_gates.proofs.batch.check_inspection.Goals as goal

unread : (f : ProjectionPatchReadFault) → gate_of (Err (reading_refused f)) ≡ refuse (of_reading (fault_of f)) 1
unfolding gate_of
unread Malformed = refl
unread OverCapacity = refl

pub returns-in_err-readable : goal.returns-in_err-readable
unfolding inspection_by
returns-in_err-readable c = rw c.in_err-readable.was (handed_on c.from_residual.result _ c.from_residual.ensures.1 ∙ unread c.in_err-readable.field-0.0)

pub returns-in-Found : goal.returns-in-Found
unfolding gate_of inspection_by
returns-in-Found c = rw (c.in_ok-readable.was, c.in-Found.is, c.into.ensures)

pub returns-in_err-evaluate_counts-in-Clean : goal.returns-in_err-evaluate_counts-in-Clean
unfolding step_of inspection_by
returns-in_err-evaluate_counts-in-Clean c =
    rw (c.in_ok-readable.was, c.in-Clean.is, sym c.in_err-evaluate_counts-in-Clean.ensures)
    (one_handed_on c.from_residual-in_err-evaluate_counts-in-Clean.result _ c.from_residual-in_err-evaluate_counts-in-Clean.ensures.1)

pub returns-in_err-check_targets-in-Clean : goal.returns-in_err-check_targets-in-Clean
unfolding gate_of step_of inspection_by targets_by
returns-in_err-check_targets-in-Clean c =
    rw (c.in_ok-readable.was, c.in-Clean.is, sym c.in_ok-evaluate_counts-in-Clean.ensures, sym c.in_err-check_targets-in-Clean.ensures)
    (handed_on c.from_residual-in_err-check_targets-in-Clean.result _ c.from_residual-in_err-check_targets-in-Clean.ensures.1)

pub returns-in_err-evaluate_replay_compatibility-in-Clean : goal.returns-in_err-evaluate_replay_compatibility-in-Clean
unfolding gate_of step_of inspection_by targets_by
returns-in_err-evaluate_replay_compatibility-in-Clean c =
    rw (c.in_ok-readable.was, c.in-Clean.is, sym c.in_ok-evaluate_counts-in-Clean.ensures, sym c.in_ok-check_targets-in-Clean.ensures, sym c.in_err-evaluate_replay_compatibility-in-Clean.ensures)
    (one_handed_on c.from_residual-in_err-evaluate_replay_compatibility-in-Clean.result _ c.from_residual-in_err-evaluate_replay_compatibility-in-Clean.ensures.1)

pub returns-in_ok-evaluate_replay_compatibility-in-Clean : goal.returns-in_ok-evaluate_replay_compatibility-in-Clean
unfolding gate_of step_of inspection_by targets_by
returns-in_ok-evaluate_replay_compatibility-in-Clean c =
    rw (c.in_ok-readable.was, c.in-Clean.is, sym c.in_ok-evaluate_counts-in-Clean.ensures, sym c.in_ok-check_targets-in-Clean.ensures, sym c.in_ok-evaluate_replay_compatibility-in-Clean.ensures)
