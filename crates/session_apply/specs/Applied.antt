-- What a lifecycle step promises of the struct before and after it: 01, 'Lifecycle'.
use Rattle.std.specs.Prelude.{◌≡◌, Bool, true, false}
use Rattle.spec_session.specs.Session.{Session}
use Rattle.spec_session.specs.Lifecycle.{lifecycle_step}
use Rattle.session_lifecycle.specs.Meaning.{stimulus_of, answer_of, bare, limits_of, shell_state_of}
use Rattle.session_lifecycle.specs.declared.lifecycle.ShellTransitionDisposition.{ShellTransitionDisposition}
use Rattle.session_lifecycle.specs.declared.lifecycle.ShellTransitionDisposition.TheVariants.{Applied, NoChange, Rejected}
use Rattle.session_lifecycle.specs.declared.lifecycle.ShellTransitionInput.{ShellTransitionInput}
use Rattle.session_lifecycle.specs.declared.lifecycle.ShellTransitionResult.{ShellTransitionResult}
use Rattle.shell_player.specs.declared.session.ShellSession.{ShellSession}
use Rattle.shell_player.specs.declared.session.ShellTransition.{ShellTransition}
use Rattle.shell_player.specs.Holds.{Holds}
use Rattle.shell_player.specs.Steps.{next_session, after_transition}

-- the steps after which the next session is stored
unfoldable pub is_applied : ShellTransitionDisposition → Bool
is_applied Applied = true
is_applied NoChange = false
is_applied Rejected = false

-- for every struct whatever: the answer is the definition's on its limits and its state
abbrev pub Answers : ShellSession → ShellTransitionInput → ShellTransitionResult → Type 0
Answers s i r = answer_of r ≡ (lifecycle_step (bare (limits_of s.context.limits) (shell_state_of s.state)) (stimulus_of i.stimulus) i.stimulus_bytes).answer

-- for every session that the struct stores: the answer is the definition's, and the next session is stored afterwards
abbrev pub StepsTo : ShellSession → ShellTransitionInput → ShellTransitionResult → ShellSession → Type 0
StepsTo s i r t = (m : Session) → Holds s m → (answer_of r ≡ (lifecycle_step m (stimulus_of i.stimulus) i.stimulus_bytes).answer) × Holds t (lifecycle_step m (stimulus_of i.stimulus) i.stimulus_bytes).next

-- what the step by value says of its answer
abbrev pub Stepped : ShellSession → ShellTransitionInput → ShellTransition → Type 0
Stepped s i r = (r ≡ after_transition s r.result) × (StepsTo s i r.result r.session × Answers s i r.result)

-- what the step behind a reference says of its answer and of the session that it leaves there
pub record StepsInPlace (s : ShellSession) (i : ShellTransitionInput) (r : ShellTransitionResult) (t : ShellSession) : Type 0 where
  -- the new state where the step was applied, and everything as it was otherwise
  pub stored : t ≡ next_session s r.disposition r.state
  pub holding : StepsTo s i r t
  pub answered : Answers s i r
