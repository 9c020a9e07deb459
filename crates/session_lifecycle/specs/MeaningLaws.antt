-- The answer of a lifecycle step depends on the limits and the state alone.
use Rattle.std.specs.Prelude.{ℕ, ◌≤◌, ◌<◌, ◌≡◌, refl, Bool, true, false, leb, if◌then◌else◌}
use Rattle.std.proofs.Math.Option.{Option, none, some}
use borrow.Author.Tests.{le-leb, lt-leb}
use Rattle.spec_session.specs.Session.{Lifecycle, Session}
use Rattle.spec_session.specs.Diagnostics.{session_closed, wrong_lifecycle, limit_exceeded}
use Rattle.spec_session.specs.Lifecycle.{Stimulus, Disposition, LifecycleStep, lifecycle_step, reject_lifecycle, enter_lifecycle, state_of, transition, is_closed, with_lifecycle, disposition_of}
use Rattle.session_lifecycle.specs.Meaning.{bare}

abbrev step_by : Session → Disposition → ℕ → Bool → Option Lifecycle → Bool → LifecycleStep
step_by s d b shut to fits =
    if shut then reject_lifecycle s b session_closed else
    elim to [ none ↦ reject_lifecycle s b wrong_lifecycle | some l ↦ if fits then enter_lifecycle s b d l else reject_lifecycle s b limit_exceeded ]

same_answer : (s : Session) (d : Disposition) (b : ℕ) (shut : Bool) (to : Option Lifecycle) (fits : Bool)
    → (step_by (bare s.limits (state_of s)) d b shut to fits).answer ≡ (step_by s d b shut to fits).answer
unfolding reject_lifecycle enter_lifecycle state_of with_lifecycle
same_answer s d b true to fits = refl
same_answer s d b false none fits = refl
same_answer s d b false (some l) true = refl
same_answer s d b false (some l) false = refl

pub bare_answers : (s : Session) (u : Stimulus) (b : ℕ) → (lifecycle_step (bare s.limits (state_of s)) u b).answer ≡ (lifecycle_step s u b).answer
unfolding lifecycle_step state_of
bare_answers s u b = same_answer s (disposition_of u) b (is_closed s.lifecycle) (transition s.lifecycle u) (leb b s.limits.stimulus_bytes)

-- ---- the step, by the tests that it makes

module _ (s : Session) (u : Stimulus) (b : ℕ) where
  pub closed_step : is_closed s.lifecycle ≡ true → lifecycle_step s u b ≡ reject_lifecycle s b session_closed
  unfolding lifecycle_step
  closed_step h = rw h

  module _ (unclosed : is_closed s.lifecycle ≡ false) where
    pub wrong_step : transition s.lifecycle u ≡ none → lifecycle_step s u b ≡ reject_lifecycle s b wrong_lifecycle
    unfolding lifecycle_step
    wrong_step h = rw (unclosed, h)

    pub over_step : (l : Lifecycle) → transition s.lifecycle u ≡ some l → s.limits.stimulus_bytes < b → lifecycle_step s u b ≡ reject_lifecycle s b limit_exceeded
    unfolding lifecycle_step
    over_step l h over = rw (unclosed, h, lt-leb b s.limits.stimulus_bytes over)

    pub entered_step : (l : Lifecycle) → transition s.lifecycle u ≡ some l → b ≤ s.limits.stimulus_bytes → lifecycle_step s u b ≡ enter_lifecycle s b (disposition_of u) l
    unfolding lifecycle_step
    entered_step l h fits = rw (unclosed, h, le-leb b s.limits.stimulus_bytes fits)
