-- Every refusal of the steps comes with a logical count that fits it.
use Rattle.std.specs.Prelude.{ℕ, ◌≡◌, refl, Bool, true, false, eqb}
use Rattle.std.proofs.Common.{arith, lt-ltb}
use Rattle.std.proofs.lemmas.Bool.{eqb-false}
use Rattle.spec_lists.proofs.ListLaws.{test_cases}
use Rattle.spec_session.specs.Session.{Lifecycle, Cursor, Limits}
use Rattle.spec_session.specs.Diagnostics.{SessionRefusal, session_mismatch, session_closed, limit_exceeded, counts_differ, cursor_mismatch}
use Rattle.spec_session.specs.Batch.{BatchEnvelope, Check, pass, refuse, ◌>>◌, require, known_targets}
use Rattle.projection_patch.specs.declared.read_values.ProjectionPatchReadFault.TheVariants.{Malformed, OverCapacity}
use Rattle.std.specs.Prelude as code
use Rattle.projection_patch.specs.declared.read_values.ProjectionPatchReadFault.{ProjectionPatchReadFault}
use Rattle.check_quick.specs.declared.inspection.SetInspection.{SetInspection}
use Rattle.check_quick.specs.declared.inspection.SetInspection.TheVariants as inspection
use Rattle.session_gates.specs.Gates.{preflight_by, counts_by, replay_by, targets_by, inspection_by, count_fits, check_counted}

then_counted : (a b : Check (Unit {0})) → check_counted a ≡ true → check_counted b ≡ true → check_counted (a >> b) ≡ true
then_counted (pass u) b h k = k
then_counted (refuse r n) b h k = h

require_counted : (t : Bool) (r : SessionRefusal) → count_fits r 1 ≡ true → check_counted (require t r) ≡ true
unfolding check_counted require
require_counted true r h = refl
require_counted false r h = h

preflight_counted : (id : ℕ) (l : Limits) (life : Lifecycle) (e : BatchEnvelope) → check_counted (preflight_by id l life e) ≡ true
unfolding preflight_by count_fits
preflight_counted id l life e = then_counted _ _ (require_counted _ session_mismatch refl) (then_counted _ _ (require_counted _ session_closed refl) (require_counted _ limit_exceeded refl))

counts_counted : (l : Limits) (e : BatchEnvelope) (declared n k : ℕ) → check_counted (counts_by l e declared n k) ≡ true
unfolding counts_by count_fits
counts_counted l e declared n k = then_counted _ _ (require_counted _ counts_differ refl) (require_counted _ limit_exceeded refl)

known_counted : (absent : ℕ) → check_counted (known_targets absent) ≡ true
unfolding known_targets check_counted count_fits
known_counted absent =
    test_cases (eqb absent 0)
    (λ e. rw e)
    (λ e. rw e (lt-ltb 0 absent (let some = eqb-false absent 0 e in omega (arith, some))))

clean_counted : (l : Limits) (c : Cursor) (e : BatchEnvelope) (declared n k absent : ℕ) → check_counted (counts_by l e declared n k >> targets_by absent c e) ≡ true
unfolding targets_by replay_by count_fits
clean_counted l c e declared n k absent = then_counted _ _ (counts_counted l e declared n k) (then_counted _ _ (known_counted absent) (require_counted _ cursor_mismatch refl))

inspection_counted : (l : Limits) (c : Cursor) (e : BatchEnvelope) (declared : ℕ) (i : code.Result SetInspection ProjectionPatchReadFault) → check_counted (inspection_by l c e declared i) ≡ true
unfolding inspection_by check_counted count_fits
inspection_counted l c e declared (code.Err Malformed) = refl
inspection_counted l c e declared (code.Err OverCapacity) = refl
inspection_counted l c e declared (code.Ok inspection.Found) = refl
inspection_counted l c e declared (code.Ok (inspection.Clean n k absent)) = clean_counted l c e declared n k absent

pub steps_counted : (id : ℕ) (l : Limits) (life : Lifecycle) (c : Cursor) (e : BatchEnvelope) (declared : ℕ) (i : code.Result SetInspection ProjectionPatchReadFault) → check_counted (preflight_by id l life e >> inspection_by l c e declared i) ≡ true
steps_counted id l life c e declared i = then_counted _ _ (preflight_counted id l life e) (inspection_counted l c e declared i)
