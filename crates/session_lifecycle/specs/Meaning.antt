-- What the types of this crate stand for in spec_session.
use Rattle.std.specs.Prelude as code
use Rattle.std.specs.Prelude.{[], ◌≡◌, ℕ}
use Rattle.std.proofs.Math.Option.{Option, none, some}
use Rattle.spec_projection.specs.Projection.{empty}
use Rattle.spec_session.specs.Session as model
use Rattle.spec_session.specs.Diagnostics as refusal
use Rattle.spec_session.specs.Lifecycle as step
use Rattle.session_lifecycle.specs.declared.state.ShellLifecycle.{ShellLifecycle}
use Rattle.session_lifecycle.specs.declared.state.ShellLifecycle.TheVariants.{Created, Active, Suspended, Closed}
use Rattle.session_lifecycle.specs.declared.state.ProjectionReplayCursor.{ProjectionReplayCursor}
use Rattle.session_lifecycle.specs.declared.state.ProjectionReplayCursor.TheVariants.{Uninitialized, At}
use Rattle.session_lifecycle.specs.declared.state.ShellLocalState.{ShellLocalState}
use Rattle.session_lifecycle.specs.declared.state.ShellLifecycleLimits.{ShellLifecycleLimits}
use Rattle.session_lifecycle.specs.declared.diagnostics.ShellRefusal.{ShellRefusal}
use Rattle.session_lifecycle.specs.declared.diagnostics.ShellRefusal.TheVariants.{SessionMismatch, SessionClosed, InvalidLifecycle, ResourceLimitExceeded, CountsDiffer, InvalidTarget, ReplayCursorMismatch, KeyRule, ProjectionFull, Malformed, ChecksFailed, OverCapacity}
use Rattle.session_lifecycle.specs.declared.diagnostics.ShellDiagnostics.{ShellDiagnostics}
use Rattle.session_lifecycle.specs.declared.lifecycle.ShellLifecycleCommand.{ShellLifecycleCommand}
use Rattle.session_lifecycle.specs.declared.lifecycle.ShellLifecycleCommand.TheVariants.{Activate, Suspend, Resume, Close}
use Rattle.session_lifecycle.specs.declared.lifecycle.ShellLifecycleStimulus.{ShellLifecycleStimulus}
use Rattle.session_lifecycle.specs.declared.lifecycle.ShellLifecycleStimulus.TheVariants.{Command, ExplicitNoOp}
use Rattle.session_lifecycle.specs.declared.lifecycle.ShellTransitionDisposition.{ShellTransitionDisposition}
use Rattle.session_lifecycle.specs.declared.lifecycle.ShellTransitionDisposition.TheVariants.{Applied, NoChange, Rejected}
use Rattle.session_lifecycle.specs.declared.lifecycle.ShellTransitionResult.{ShellTransitionResult}

-- ---- refusals and diagnostics

abbrev pub refusal_of : ShellRefusal → refusal.SessionRefusal
refusal_of SessionMismatch = refusal.session_mismatch
refusal_of SessionClosed = refusal.session_closed
refusal_of InvalidLifecycle = refusal.wrong_lifecycle
refusal_of ResourceLimitExceeded = refusal.limit_exceeded
refusal_of CountsDiffer = refusal.counts_differ
refusal_of InvalidTarget = refusal.unknown_target
refusal_of ReplayCursorMismatch = refusal.cursor_mismatch
refusal_of KeyRule = refusal.key_rule
refusal_of ProjectionFull = refusal.projection_full
refusal_of Malformed = refusal.malformed
refusal_of ChecksFailed = refusal.checks_failed
refusal_of OverCapacity = refusal.over_capacity

abbrev pub diagnostics_mean : ShellDiagnostics → refusal.Diagnostics
diagnostics_mean d = record {
  code = d.stable_code;
  stage = d.evaluation_stage;
  logical = d.logical_diagnostic_count;
  emitted = d.emitted_diagnostic_count;
}

-- ---- the state and the limits

abbrev pub lifecycle_of : ShellLifecycle → model.Lifecycle
lifecycle_of Created = model.created
lifecycle_of Active = model.active
lifecycle_of Suspended = model.suspended
lifecycle_of Closed = model.closed

unfoldable pub cursor_of : ProjectionReplayCursor → model.Cursor
cursor_of Uninitialized = model.uninitialized
cursor_of (At n) = model.at n

abbrev pub shell_state_of : ShellLocalState → step.LocalState
shell_state_of s = record { id = s.session_id.0; lifecycle = lifecycle_of s.lifecycle; cursor = cursor_of s.replay_cursor }

abbrev pub limits_of : ShellLifecycleLimits → model.Limits
limits_of l = record {
  stimulus_bytes = l.max_transition_stimulus_bytes;
  diagnostics = l.max_diagnostics_per_transition;
  patches = l.max_patches_per_transition;
  references = l.max_target_references_per_transition;
}

-- a session of these limits and this state, without anchors and with an empty projection: what the lifecycle looks at
abbrev pub bare : model.Limits → step.LocalState → model.Session
bare l s = record {
  id = s.id;
  limits = l;
  catalogue = record { nodes = []; bindings = []; collections = [] };
  lifecycle = s.lifecycle;
  cursor = s.cursor;
  projection = empty;
}

-- ---- stimuli and answers

unfoldable pub command_of : ShellLifecycleCommand → step.Stimulus
command_of Activate = step.activate
command_of Suspend = step.suspend
command_of Resume = step.resume
command_of Close = step.close

unfoldable pub stimulus_of : ShellLifecycleStimulus → step.Stimulus
stimulus_of (Command c) = command_of c
stimulus_of ExplicitNoOp = step.no_op

abbrev pub candidate_of : code.Option ShellLifecycle → Option model.Lifecycle
candidate_of (code.Some l) = some (lifecycle_of l)
candidate_of code.None = none

unfoldable pub disposition_means : ShellTransitionDisposition → step.Disposition
disposition_means Applied = step.applied
disposition_means NoChange = step.no_change
disposition_means Rejected = step.rejected

abbrev pub answer_of : ShellTransitionResult → step.LifecycleAnswer
answer_of r = record {
  disposition = disposition_means r.disposition;
  state = shell_state_of r.state;
  stimulus_bytes = r.stimulus_bytes;
  diagnostics = diagnostics_mean r.diagnostics;
}

-- what a step comes to that enters a lifecycle or refuses
abbrev pub entered_or_refused : model.Session → step.Stimulus → ℕ → code.Result ShellLifecycle ShellRefusal → step.LifecycleStep
entered_or_refused s u b (code.Ok l) = step.enter_lifecycle s b (step.disposition_of u) (lifecycle_of l)
entered_or_refused s u b (code.Err r) = step.reject_lifecycle s b (refusal_of r)
