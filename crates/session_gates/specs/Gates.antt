-- The steps of a batch, by what each of them looks at: 01, 'One batch, from entry to leaf'. `GatesLaws.antt` proves that in their order they are
-- `batch_checks`.
use Rattle.std.specs.Prelude.{ℕ, ◌≡◌, Bool, true, not, ◌&&◌, ◌||◌, List, leb, ltb, eqb, if◌then◌else◌, Result, Ok, Err}
use Rattle.spec_patch.specs.Patch.{Patch}
use Rattle.spec_session.specs.Session.{Lifecycle, Cursor, Limits}
use Rattle.spec_session.specs.Diagnostics.{SessionRefusal, session_number, session_mismatch, session_closed, limit_exceeded, counts_differ, cursor_mismatch, checks_failed, of_reading}
use Rattle.spec_session.specs.Lifecycle.{is_closed}
use Rattle.spec_session.specs.Batch.{BatchEnvelope, Check, pass, refuse, ◌>>◌, require, known_targets, takes_number}
use Rattle.projection_patch.specs.ReadAnswers.{fault_of}
use Rattle.std.specs.Prelude as code
use Rattle.projection_patch.specs.declared.read_values.ProjectionPatchReadFault.{ProjectionPatchReadFault}
use Rattle.check_quick.specs.declared.inspection.SetInspection.{SetInspection}
use Rattle.check_quick.specs.declared.inspection.SetInspection.TheVariants as inspection
use Rattle.projection_patch.specs.declared.read_values.ProjectionPatchReadFault.{ProjectionPatchReadFault}
use Rattle.projection_patch.specs.declared.read_values.ProjectionPatchReadFault.TheVariants.{Malformed, OverCapacity}
use Rattle.session_lifecycle.specs.Meaning.{refusal_of}
use Rattle.session_lifecycle.specs.declared.diagnostics.ShellRefusal.{ShellRefusal}
use Rattle.session_lifecycle.specs.declared.diagnostics.ShellRefusal.TheVariants as refused
use Rattle.session_gates.specs.declared.gates.OrderedProjectionPatchBatchEnvelope.{OrderedProjectionPatchBatchEnvelope}
use Rattle.session_gates.specs.declared.gates.GateRefusal.{GateRefusal}

abbrev pub batch_envelope_of : OrderedProjectionPatchBatchEnvelope → BatchEnvelope
batch_envelope_of e = record { session = e.session_id.0; sequence = e.sequence_no; patches = e.patch_count; stimulus_bytes = e.stimulus_bytes }

unfoldable pub gate_of : Result (Unit {0}) GateRefusal → Check (Unit {0})
gate_of (Ok u) = pass tt
gate_of (Err r) = refuse (refusal_of r.refusal) r.logical

-- a refusal with one diagnostic
abbrev pub one_refusal : ShellRefusal → GateRefusal
one_refusal r = record { refusal = r; logical = 1 }

abbrev pub reading_refused : ProjectionPatchReadFault → GateRefusal
reading_refused Malformed = one_refusal refused.Malformed
reading_refused OverCapacity = one_refusal refused.OverCapacity

-- a step whose refusals have one diagnostic each
unfoldable pub step_of : Result (Unit {0}) ShellRefusal → Check (Unit {0})
step_of (Ok u) = pass tt
step_of (Err r) = refuse (refusal_of r) 1

-- steps 1 to 3
unfoldable pub preflight_by : ℕ → Limits → Lifecycle → BatchEnvelope → Check (Unit {0})
preflight_by id l life e =
    require (eqb e.session id) session_mismatch
    >> (require (not (is_closed life)) session_closed
    >> require (leb e.patches l.patches && leb e.stimulus_bytes l.stimulus_bytes) limit_exceeded)

-- steps 5 and 6, with the actual counts
unfoldable pub counts_by : Limits → BatchEnvelope → ℕ → ℕ → ℕ → Check (Unit {0})
counts_by l e declared n k = require (eqb e.patches n && eqb declared k) counts_differ >> require (leb k l.references) limit_exceeded

-- step 8
unfoldable pub replay_by : Cursor → BatchEnvelope → Check (Unit {0})
replay_by c e = require (eqb e.patches 0 || takes_number c e.sequence) cursor_mismatch

-- steps 7 and 8, where so many targets are absent
unfoldable pub targets_by : ℕ → Cursor → BatchEnvelope → Check (Unit {0})
targets_by absent c e = known_targets absent >> replay_by c e

-- steps 4 to 8, by what the pass over the set found
unfoldable pub inspection_by : Limits → Cursor → BatchEnvelope → ℕ → code.Result SetInspection ProjectionPatchReadFault → Check (Unit {0})
inspection_by l c e declared (code.Err f) = refuse (of_reading (fault_of f)) 1
inspection_by l c e declared (code.Ok inspection.Found) = refuse checks_failed 1
inspection_by l c e declared (code.Ok (inspection.Clean n k absent)) = counts_by l e declared n k >> targets_by absent c e

-- whether all steps passed, without the patches
abbrev pub erased : Check (List Patch) → Check (Unit {0})
erased (pass ps) = pass tt
erased (refuse r n) = refuse r n

-- ---- what holds of an answer for any values whatever

-- 01, 'Diagnostics under the cap': the logical count of a rejection is 1, but for 6, which has one for each absent target
unfoldable pub count_fits : SessionRefusal → ℕ → Bool
count_fits r n = if eqb (session_number r) 6 then ltb 0 n else eqb n 1

unfoldable pub check_counted : Check (Unit {0}) → Bool
check_counted (pass u) = true
check_counted (refuse r n) = count_fits r n

-- where the first of two checks refuses, that is the answer
abbrev pub Decides : Check (Unit {0}) → Check (Unit {0}) → Type 0
Decides first answer = (r : SessionRefusal) (n : ℕ) → first ≡ refuse r n → answer ≡ refuse r n
