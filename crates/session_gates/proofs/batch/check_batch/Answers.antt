-- `check_batch` meets its contract: the preflight, then what the set must pass.
use Rattle.session_gates.specs.Gates.{step_of}
use Rattle.session_gates.proofs.GatesLaws.{preflight_refused, preflight_passed, one_handed_on}
use Rattle.session_gates.proofs.batch.check_batch.Goals as goal

pub returns-in_err-evaluate_preflight : goal.returns-in_err-evaluate_preflight
unfolding step_of
returns-in_err-evaluate_preflight c =
    let all = preflight_refused _ _ _ _ _ _ _ _ _ _ _ _ _ (one_handed_on c.from_residual.result _ c.from_residual.ensures.1) c.in_err-evaluate_preflight.ensures in
    record { checked = all.0; whatever = all.1.0; preflight = all.1.1 }

pub returns : goal.returns
unfolding step_of
returns c =
    let all = preflight_passed _ _ _ _ _ _ _ _ _ _ _ c.in_ok-evaluate_preflight.ensures _ c.inspect_set-inspected.ensures c.check_inspection.ensures in
    record { checked = all.0; whatever = all.1.0; preflight = all.1.1 }
