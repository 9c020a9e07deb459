-- Answers that mean the same are equal.
use Rattle.std.specs.Prelude.{◌≡◌, refl}
use Rattle.std.proofs.Common.{sym, ap, ◌∙◌}
use Rattle.spec_session.specs.Lifecycle as step
use Rattle.spec_session.specs.Lifecycle.{Disposition, LifecycleAnswer}
use Rattle.spec_session.specs.Batch.{BatchAnswer}
use Rattle.session_lifecycle.specs.Meaning.{disposition_means, answer_of}
use Rattle.session_lifecycle.specs.declared.lifecycle.ShellTransitionDisposition.{ShellTransitionDisposition}
use Rattle.session_lifecycle.specs.declared.lifecycle.ShellTransitionDisposition.TheVariants.{Applied, NoChange, Rejected}
use Rattle.session_lifecycle.specs.declared.lifecycle.ShellTransitionResult.{ShellTransitionResult}
use Rattle.session_steps.specs.Answers.{batch_answer_of}
use Rattle.session_steps.specs.declared.answers.ProjectionPatchApplicationResult.{ProjectionPatchApplicationResult}
use Rattle.shell_player.specs.HoldsLaws.{cursor_to, state_to, cursor_back, state_back}
use Rattle.session_splitting.proofs.Theorem.{disposition_to, disposition_back, diagnostics_same}

-- ---- a batch's

pub batch_answer_same : (a b : ProjectionPatchApplicationResult) → batch_answer_of a ≡ batch_answer_of b → a ≡ b
batch_answer_same a b e = λ i. record {
  disposition = (sym (disposition_back a.disposition) ∙ ap (λ (x : BatchAnswer). disposition_to x.disposition) e ∙ disposition_back b.disposition) i;
  diagnostics = diagnostics_same a.diagnostics b.diagnostics (ap (λ (x : BatchAnswer). x.diagnostics) e) i;
  replay_cursor = (cursor_back a.replay_cursor ∙ ap (λ (x : BatchAnswer). cursor_to x.cursor) e ∙ sym (cursor_back b.replay_cursor)) i;
}

-- ---- a lifecycle step's

transition_disposition_to : Disposition → ShellTransitionDisposition
transition_disposition_to step.applied = Applied
transition_disposition_to step.no_change = NoChange
transition_disposition_to step.rejected = Rejected

step_back : (d : ShellTransitionDisposition) → transition_disposition_to (disposition_means d) ≡ d
unfolding transition_disposition_to disposition_means
step_back Applied = refl
step_back NoChange = refl
step_back Rejected = refl

pub step_answer_same : (a b : ShellTransitionResult) → answer_of a ≡ answer_of b → a ≡ b
step_answer_same a b e = λ i. record {
  disposition = (sym (step_back a.disposition) ∙ ap (λ (x : LifecycleAnswer). transition_disposition_to x.disposition) e ∙ step_back b.disposition) i;
  state = (state_back a.state ∙ ap (λ (x : LifecycleAnswer). state_to x.state) e ∙ sym (state_back b.state)) i;
  diagnostics = diagnostics_same a.diagnostics b.diagnostics (ap (λ (x : LifecycleAnswer). x.diagnostics) e) i;
  stimulus_bytes = ap (λ (x : LifecycleAnswer). x.stimulus_bytes) e i;
}
