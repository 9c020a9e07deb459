-- The struct after a step, for every struct whatever.
use Rattle.session_lifecycle.specs.declared.lifecycle.ShellTransitionDisposition.{ShellTransitionDisposition}
use Rattle.session_lifecycle.specs.declared.lifecycle.ShellTransitionDisposition.TheVariants.{Applied, NoChange, Rejected}
use Rattle.session_lifecycle.specs.declared.lifecycle.ShellTransitionResult.{ShellTransitionResult}
use Rattle.session_lifecycle.specs.declared.state.ShellLocalState.{ShellLocalState}
use Rattle.session_lifecycle.specs.declared.state.ShellLifecycle.TheVariants.{Created}
use Rattle.session_lifecycle.specs.declared.state.ProjectionReplayCursor.TheVariants.{Uninitialized}
use Rattle.spec_projection.specs.Projection.{empty}
use Rattle.local_projection_state.specs.Stores.{stored_state}
use Rattle.session_steps.specs.declared.checks.ActivatedShellSessionContext.{ActivatedShellSessionContext}
use Rattle.shell_player.specs.declared.session.ShellSession.{ShellSession}
use Rattle.shell_player.specs.declared.session.ShellTransition.{ShellTransition}

-- Created, Uninitialized, and an empty projection
unfoldable pub new_state : ActivatedShellSessionContext → ShellSession
new_state c = record {
  context = c;
  state = record { session_id = c.session_id; lifecycle = Created; replay_cursor = Uninitialized };
  local_projection = stored_state empty;
}

-- the session with another state
abbrev pub with_state : ShellSession → ShellLocalState → ShellSession
with_state s t = record { context = s.context; state = t; local_projection = s.local_projection }

-- the new state where the step was applied, and everything as it was otherwise
unfoldable pub next_session : ShellSession → ShellTransitionDisposition → ShellLocalState → ShellSession
next_session s Applied t = with_state s t
next_session s NoChange t = s
next_session s Rejected t = s

unfoldable pub after_transition : ShellSession → ShellTransitionResult → ShellTransition
after_transition s r = record { session = next_session s r.disposition r.state; result = r }
