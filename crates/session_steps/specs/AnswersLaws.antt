-- Laws of the answers of a batch.
use Rattle.std.specs.Prelude as code
use Rattle.std.specs.Prelude.{ℕ, ◌≡◌, refl, true}
use Rattle.std.proofs.Common.{ap₂, arith}
use Rattle.spec_projection.specs.Apply as applying
use Rattle.spec_projection.specs.Apply.{OperationFault}
use Rattle.spec_session.specs.Session.{Cursor}
use Rattle.spec_session.specs.Diagnostics.{SessionRefusal, malformed, of_operation}
use Rattle.spec_session.specs.Lifecycle.{applied}
use Rattle.spec_session.specs.Batch.{BatchAnswer, Check, refuse}
use Rattle.local_projection_state.specs.declared.ProjectionCounts.{ProjectionCounts}
use Rattle.local_projection_state.specs.Faults.{application_fault_of}
use Rattle.panel_changes.specs.declared.SetRefusal.{SetRefusal}
use Rattle.panel_changes.specs.declared.SetRefusal.TheVariants as change
use Rattle.session_gates.specs.Gates.{count_fits}
use Rattle.session_steps.specs.declared.answers.ProjectionPatchApplicationDisposition.{ProjectionPatchApplicationDisposition}
use Rattle.session_steps.specs.declared.answers.ProjectionPatchApplicationDisposition.TheVariants.{Applied, NoChange, Rejected}
use Rattle.session_steps.specs.Answers.{disposition_told, rejected_at, change_answer, AnswerRow, rejected_row, applied_row}

pub applied_told : (d : ProjectionPatchApplicationDisposition) → disposition_told d ≡ applied → d ≡ Applied
unfolding disposition_told
applied_told Applied e = refl
applied_told NoChange e = absurd (let z : ◌≡◌ {A = ℕ} 0 1 = cc in omega arith)
applied_told Rejected e = absurd (let z : ◌≡◌ {A = ℕ} 0 1 = cc in omega arith)

-- ---- what every struct is answered

operation_counted : (f : OperationFault) → count_fits (of_operation f) 1 ≡ true
unfolding count_fits
operation_counted applying.key_rule = refl
operation_counted applying.projection_full = refl

-- whatever came of the operations, the answer has its row
pub change_row : (limit : ℕ) (c : Cursor) (n : ℕ) (a : BatchAnswer) (s : code.Result ProjectionCounts SetRefusal) → a ≡ change_answer limit c n s → AnswerRow limit c n a
unfolding change_answer count_fits
change_row limit c n a (code.Ok k) h = applied_row h
change_row limit c n a (code.Err (change.Operation f)) h = rejected_row (of_operation (application_fault_of f)) 1 (operation_counted (application_fault_of f)) h
change_row limit c n a (code.Err (change.Unreadable f)) h = rejected_row malformed 1 refl h
change_row limit c n a (code.Err change.BadTables) h = rejected_row malformed 1 refl h

pub same_rejection : {f g : SessionRefusal} {n k : ℕ} (limit : ℕ) (c : Cursor) → ◌≡◌ {A = Check (Unit {0})} (refuse f n) (refuse g k) → rejected_at limit f n c ≡ rejected_at limit g k c
same_rejection {f = f} {g = g} {n = n} {k = k} limit c e =
    let same : f ≡ g = cc e in
    let count : n ≡ k = cc e in
    ap₂ (λ a b. rejected_at limit a b c) same count
