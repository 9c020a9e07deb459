-- What a batch hands back, as a session's struct and its answer.
use Rattle.std.specs.Prelude.{ℕ, ◌≡◌, List}
use Rattle.spec_patch.specs.Edition.{Edition}
use Rattle.spec_session.specs.Session.{Session}
use Rattle.spec_session.specs.Diagnostics.{SessionRefusal}
use Rattle.spec_session.specs.Batch.{BatchStep, refuse, batch}
use Rattle.session_lifecycle.specs.Meaning.{limits_of, lifecycle_of, cursor_of}
use Rattle.session_lifecycle.specs.declared.state.ShellLocalState.{ShellLocalState}
use Rattle.local_projection_state.specs.declared.ProjectionCounts.{ProjectionCounts}
use Rattle.session_gates.specs.Gates.{batch_envelope_of, preflight_by}
use Rattle.session_gates.specs.declared.gates.OrderedProjectionPatchBatchEnvelope.{OrderedProjectionPatchBatchEnvelope}
use Rattle.session_steps.specs.Answers.{batch_answer_of, rejected_at, AnswerRow}
use Rattle.session_steps.specs.declared.answers.ProjectionPatchApplicationDisposition.TheVariants.{Applied}
use Rattle.session_steps.specs.declared.answers.ProjectionPatchApplicationResult.{ProjectionPatchApplicationResult}
use Rattle.session_steps.specs.declared.checks.ActivatedShellSessionContext.{ActivatedShellSessionContext}
use Rattle.shell_player.specs.declared.session.ShellSession.{ShellSession}
use Rattle.shell_player.specs.declared.batch.ProjectionPatchBatch.{ProjectionPatchBatch}
use Rattle.shell_player.specs.Holds.{Holds}

-- the session of these parts
abbrev pub session_of : ActivatedShellSessionContext → ShellLocalState → ProjectionCounts → List ℕ → List ℕ → List ℕ → List ℕ → ShellSession
session_of c t n b a e l = record { context = c; state = t; local_projection = record { counts = n; bindings = b; availability = a; entries = e; lengths = l } }

-- a batch's session and answer
abbrev pub batch_of : ShellSession → ProjectionPatchApplicationResult → ProjectionPatchBatch
batch_of s r = record { session = s; result = r }

-- ---- the relation of a batch call

-- the answer is the step's, and the session handed back stores the next one
pub record BatchBecame (r : ProjectionPatchBatch) (step : BatchStep) : Type 0 where
  pub answer : batch_answer_of r.result ≡ step.answer
  pub next : Holds r.session step.next

-- a batch that is not applied hands back the session that came in
abbrev pub KeptUnlessApplied : ShellSession → ProjectionPatchBatch → Type 0
KeptUnlessApplied s r = (r.result.disposition ≡ Applied → ⊥) → r.session ≡ s

-- what a call with this envelope, declared count, set and edition hands back: for every session that the struct stores, what the model's batch gives
pub record BatchCall (s : ShellSession) (e : OrderedProjectionPatchBatchEnvelope) (declared : ℕ) (set : List ℕ) (ed : Edition) (r : ProjectionPatchBatch) : Type 0 where
  pub became : (m : Session) → Holds s m → BatchBecame r (batch ed m (batch_envelope_of e) declared set)

-- ---- the relation of a batch call for every struct whatever

-- the row of a call, by the struct's own limit and cursor
abbrev pub CallRow : ShellSession → OrderedProjectionPatchBatchEnvelope → ProjectionPatchBatch → Type 0
CallRow s e r = AnswerRow s.context.limits.max_diagnostics_per_transition (cursor_of s.state.replay_cursor) e.sequence_no (batch_answer_of r.result)

-- steps 1 to 3 on the struct's own fields: where they refuse, that is the answer
abbrev pub PreflightFirst : ShellSession → OrderedProjectionPatchBatchEnvelope → ProjectionPatchBatch → Type 0
PreflightFirst s e r =
    (f : SessionRefusal) (n : ℕ) → preflight_by s.context.session_id.0 (limits_of s.context.limits) (lifecycle_of s.state.lifecycle) (batch_envelope_of e) ≡ refuse f n
    → batch_answer_of r.result ≡ rejected_at s.context.limits.max_diagnostics_per_transition f n (cursor_of s.state.replay_cursor)

pub record AnyBatchCall (s : ShellSession) (e : OrderedProjectionPatchBatchEnvelope) (r : ProjectionPatchBatch) : Type 0 where
  pub kept : KeptUnlessApplied s r
  pub row : CallRow s e r
  pub preflight : PreflightFirst s e r
