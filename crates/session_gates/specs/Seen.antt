-- What the steps of a batch see of a session.
use Rattle.std.specs.Prelude.{ℕ, ◌≡◌, List}
use Rattle.spec_session.specs.Session.{Session}
use Rattle.session_gates.specs.Lent.{Lent}
use Rattle.session_lifecycle.specs.Meaning.{lifecycle_of, cursor_of, limits_of}
use Rattle.session_lifecycle.specs.declared.state.ShellLifecycleLimits.{ShellLifecycleLimits}
use Rattle.session_lifecycle.specs.declared.state.ShellLocalState.{ShellLocalState}

pub record Seen (s : Session) (id : ℕ) (limits : ShellLifecycleLimits) (state : ShellLocalState) (nodes bindings collections : List ℕ) : Type 0 where
  pub id_is : id ≡ s.id
  pub limits_are : limits_of limits ≡ s.limits
  pub lifecycle_is : lifecycle_of state.lifecycle ≡ s.lifecycle
  pub cursor_is : cursor_of state.replay_cursor ≡ s.cursor
  pub anchors_are : Lent s.catalogue nodes bindings collections
