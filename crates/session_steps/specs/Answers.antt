-- What the answers of a batch stand for.
use Rattle.std.specs.Prelude as code
use Rattle.std.specs.Prelude.{ℕ, ◌≡◌, true}
use Rattle.spec_session.specs.Session.{Cursor, at}
use Rattle.spec_session.specs.Diagnostics.{SessionRefusal, malformed, of_operation, no_diagnostics, diagnostics_of}
use Rattle.spec_session.specs.Lifecycle.{Disposition, applied, no_change, rejected}
use Rattle.spec_session.specs.Batch.{BatchAnswer}
use Rattle.session_lifecycle.specs.Meaning.{cursor_of, diagnostics_mean}
use Rattle.local_projection_state.specs.declared.ProjectionCounts.{ProjectionCounts}
use Rattle.local_projection_state.specs.Faults.{application_fault_of}
use Rattle.panel_changes.specs.declared.SetRefusal.{SetRefusal}
use Rattle.panel_changes.specs.declared.SetRefusal.TheVariants as change
use Rattle.session_gates.specs.Gates.{count_fits}
use Rattle.session_steps.specs.declared.answers.ProjectionPatchApplicationDisposition.{ProjectionPatchApplicationDisposition}
use Rattle.session_steps.specs.declared.answers.ProjectionPatchApplicationDisposition.TheVariants.{Applied, NoChange, Rejected}
use Rattle.session_steps.specs.declared.answers.ProjectionPatchApplicationResult.{ProjectionPatchApplicationResult}

unfoldable pub disposition_told : ProjectionPatchApplicationDisposition → Disposition
disposition_told Applied = applied
disposition_told NoChange = no_change
disposition_told Rejected = rejected

abbrev pub batch_answer_of : ProjectionPatchApplicationResult → BatchAnswer
batch_answer_of r = record { disposition = disposition_told r.disposition; diagnostics = diagnostics_mean r.diagnostics; cursor = cursor_of r.replay_cursor }

-- a rejection at a cursor, under a cap
abbrev pub rejected_at : ℕ → SessionRefusal → ℕ → Cursor → BatchAnswer
rejected_at cap r n c = record { disposition = rejected; diagnostics = diagnostics_of cap r n; cursor = c }

-- an answer without diagnostics
abbrev pub answer_at : Disposition → Cursor → BatchAnswer
answer_at d c = record { disposition = d; diagnostics = no_diagnostics; cursor = c }

-- the answer of step 9, by what came of the operations
unfoldable pub change_answer : ℕ → Cursor → ℕ → code.Result ProjectionCounts SetRefusal → BatchAnswer
change_answer cap c n (code.Ok counts) = answer_at applied (at n)
change_answer cap c n (code.Err (change.Operation e)) = rejected_at cap (of_operation (application_fault_of e)) 1 c
change_answer cap c n (code.Err (change.Unreadable f)) = rejected_at cap malformed 1 c
change_answer cap c n (code.Err change.BadTables) = rejected_at cap malformed 1 c

-- the set was not applied
abbrev pub Stopped : code.Result ProjectionCounts SetRefusal → Type 0
Stopped (code.Ok counts) = ⊥
Stopped (code.Err f) = Unit {0}

-- ---- the answers for every struct whatever

-- a rejection of 01's table under the cap at the cursor, NoChange there, or Applied at the batch's number
pub data AnswerRow (cap : ℕ) (c : Cursor) (n : ℕ) (a : BatchAnswer) : Type 0 where
  rejected_row : (r : SessionRefusal) (logical : ℕ) → count_fits r logical ≡ true → a ≡ rejected_at cap r logical c → AnswerRow cap c n a
  unchanged_row : a ≡ answer_at no_change c → AnswerRow cap c n a
  applied_row : a ≡ answer_at applied (at n) → AnswerRow cap c n a
