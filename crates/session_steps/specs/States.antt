-- The state after a step.
use Rattle.std.specs.Prelude.{ℕ}
use Rattle.spec_session.specs.Session.{at}
use Rattle.spec_session.specs.Lifecycle.{LocalState}
use Rattle.session_lifecycle.specs.declared.lifecycle.ShellTransitionDisposition.{ShellTransitionDisposition}
use Rattle.session_lifecycle.specs.declared.lifecycle.ShellTransitionDisposition.TheVariants.{Applied, NoChange, Rejected}
use Rattle.session_lifecycle.specs.declared.state.ShellLocalState.{ShellLocalState}

-- the state with its cursor at a number
abbrev pub moved_to : LocalState → ℕ → LocalState
moved_to t n = record { id = t.id; lifecycle = t.lifecycle; cursor = at n }

-- the answer's state where the lifecycle step was applied, else the one before
unfoldable pub next_state : ShellLocalState → ShellTransitionDisposition → ShellLocalState → ShellLocalState
next_state s Applied t = t
next_state s NoChange t = s
next_state s Rejected t = s
