-- What it is that a session's struct stores a session of the model: every field, byte for byte.
use Rattle.std.specs.Prelude.{◌≡◌}
use Rattle.spec_session.specs.Session as model
use Rattle.spec_session.specs.Lifecycle.{state_of}
use Rattle.spec_session.specs.ValidSession.{FewAnchors}
use Rattle.session_lifecycle.specs.Meaning.{limits_of, shell_state_of}
use Rattle.active_projection_target_catalog.specs.Catalog.{catalog_to}
use Rattle.local_projection_state.specs.Stores.{Stores}
use Rattle.shell_player.specs.declared.session.ShellSession.{ShellSession}

pub record Holds (s : ShellSession) (m : model.Session) : Type 0 where
  pub id : s.context.session_id.0 ≡ m.id
  pub limits : limits_of s.context.limits ≡ m.limits
  pub catalogue : s.context.catalog ≡ catalog_to m.catalogue
  pub few : FewAnchors m.catalogue
  pub state : shell_state_of s.state ≡ state_of m
  pub projection : Stores s.local_projection m.projection
