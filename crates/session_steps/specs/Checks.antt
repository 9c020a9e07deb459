-- What steps 1 to 8 of a batch look at.
use Rattle.std.specs.Prelude.{◌≡◌}
use Rattle.spec_session.specs.Session.{Session}
use Rattle.session_lifecycle.specs.Meaning.{limits_of, lifecycle_of, cursor_of}
use Rattle.session_lifecycle.specs.declared.state.ShellLocalState.{ShellLocalState}
use Rattle.active_projection_target_catalog.specs.Catalog.{catalogue_of}
use Rattle.session_steps.specs.declared.checks.ActivatedShellSessionContext.{ActivatedShellSessionContext}

-- a session of the model that a batch can't tell from the struct before it applies the operations
pub record SeenSession (context : ActivatedShellSessionContext) (state : ShellLocalState) (s : Session) : Type 0 where
  pub id_is : context.session_id.0 ≡ s.id
  pub limits_are : limits_of context.limits ≡ s.limits
  pub lifecycle_is : lifecycle_of state.lifecycle ≡ s.lifecycle
  pub cursor_is : cursor_of state.replay_cursor ≡ s.cursor
  pub catalogue_is : catalogue_of context.catalog ≡ s.catalogue
