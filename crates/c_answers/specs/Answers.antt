-- What the numbers of the exported answers stand for.
use Rattle.std.specs.Prelude.{Option, Some, None, Result, Ok, Err}
use Rattle.std.specs.Prelude.{ℕ}
use Rattle.spec_session.specs.Session.{creation_number, too_many_anchors}
use Rattle.spec_session.specs.Lifecycle.{Disposition, applied, no_change, rejected, LifecycleAnswer}
use Rattle.spec_session.specs.Batch.{BatchAnswer}
use Rattle.session_lifecycle.specs.Meaning.{answer_of}
use Rattle.session_steps.specs.Answers.{batch_answer_of}
use Rattle.session_lent.specs.Head.{lifecycle_number, cursor_kind, cursor_number}
use Rattle.session_steps.specs.declared.answers.ProjectionPatchApplicationResult.{ProjectionPatchApplicationResult}
use Rattle.session_lent.specs.declared.creation.LentCreationRefusal.{LentCreationRefusal}
use Rattle.session_lent.specs.declared.creation.LentCreationRefusal.TheVariants as creation
use Rattle.session_lifecycle.specs.declared.lifecycle.ShellTransitionResult.{ShellTransitionResult}
use Rattle.c_answers.specs.declared.answers.GeysertrayAnswer.{GeysertrayAnswer}
use Rattle.c_answers.specs.declared.answers.GeysertrayLifecycle.{GeysertrayLifecycle}

abbrev pub disposition_number : Disposition → ℕ
disposition_number applied = 0
disposition_number no_change = 1
disposition_number rejected = 2

-- an answer as seven numbers
abbrev pub answer_to : BatchAnswer → GeysertrayAnswer
answer_to a = record {
  disposition = disposition_number a.disposition;
  number = a.diagnostics.code;
  stage = a.diagnostics.stage;
  logical = a.diagnostics.logical;
  emitted = a.diagnostics.emitted;
  has_cursor = cursor_kind a.cursor;
  cursor = cursor_number a.cursor;
}

-- no session (3), or no such edition (4): every other number is 0
abbrev pub session_absent : ℕ → GeysertrayAnswer
session_absent d = record { disposition = d; number = 0; stage = 0; logical = 0; emitted = 0; has_cursor = 0; cursor = 0 }

-- a lifecycle answer as nine numbers
abbrev pub lifecycle_number_to : LifecycleAnswer → GeysertrayLifecycle
lifecycle_number_to a = record {
  disposition = disposition_number a.disposition;
  number = a.diagnostics.code;
  stage = a.diagnostics.stage;
  logical = a.diagnostics.logical;
  emitted = a.diagnostics.emitted;
  lifecycle = lifecycle_number a.state.lifecycle;
  has_cursor = cursor_kind a.state.cursor;
  cursor = cursor_number a.state.cursor;
  stimulus_bytes = a.stimulus_bytes;
}

abbrev pub no_step : ℕ → GeysertrayLifecycle
no_step d = record { disposition = d; number = 0; stage = 0; logical = 0; emitted = 0; lifecycle = 0; has_cursor = 0; cursor = 0; stimulus_bytes = 0 }

-- ---- what the calls below answer

abbrev pub batch_told : Option ProjectionPatchApplicationResult → GeysertrayAnswer
batch_told (Some r) = answer_to (batch_answer_of r)
batch_told None = session_absent 3

abbrev pub step_told : Option ShellTransitionResult → GeysertrayLifecycle
step_told (Some r) = lifecycle_number_to (answer_of r)
step_told None = no_step 3

abbrev pub creation_told : Result (Unit {0}) LentCreationRefusal → ℕ
creation_told (Ok u) = 0
creation_told (Err creation.AnchorsOverCapacity) = creation_number too_many_anchors
creation_told (Err creation.NoSession) = 3
