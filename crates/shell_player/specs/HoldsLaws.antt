-- A session of the model is stored by one struct alone, so that equal sessions are equal structs, field for field.
use Rattle.std.specs.Prelude.{◌≡◌, refl}
use Rattle.std.proofs.Common.{ap, ◌∙◌}
use Rattle.spec_session.specs.Session as model
use Rattle.spec_session.specs.Session.{Lifecycle, Cursor, Limits, Session}
use Rattle.spec_session.specs.Lifecycle.{LocalState}
use Rattle.spec_session.specs.Lifecycle as step
use Rattle.session_lifecycle.specs.Meaning.{lifecycle_of, cursor_of, shell_state_of}
use Rattle.session_lifecycle.specs.declared.state.ShellLifecycle.{ShellLifecycle}
use Rattle.session_lifecycle.specs.declared.state.ShellLifecycle.TheVariants.{Created, Active, Suspended, Closed}
use Rattle.session_lifecycle.specs.declared.state.ProjectionReplayCursor.{ProjectionReplayCursor}
use Rattle.session_lifecycle.specs.declared.state.ProjectionReplayCursor.TheVariants.{Uninitialized, At}
use Rattle.session_lifecycle.specs.declared.state.ShellLocalState.{ShellLocalState}
use Rattle.session_lifecycle.specs.declared.state.ShellLifecycleLimits.{ShellLifecycleLimits}
use Rattle.active_projection_target_catalog.specs.Catalog.{catalog_to}
use Rattle.local_projection_state.specs.Stores.{stored_state}
use Rattle.local_projection_state.specs.StoresLaws.{one_state, some_state}
use Rattle.shell_player.specs.declared.session.ShellSession.{ShellSession}
use Rattle.shell_player.specs.Holds.{Holds}

unfoldable pub lifecycle_to : Lifecycle → ShellLifecycle
lifecycle_to model.created = Created
lifecycle_to model.active = Active
lifecycle_to model.suspended = Suspended
lifecycle_to model.closed = Closed

unfoldable pub cursor_to : Cursor → ProjectionReplayCursor
cursor_to model.uninitialized = Uninitialized
cursor_to (model.at n) = At n

abbrev pub state_to : LocalState → ShellLocalState
state_to t = record { session_id = record { 0 = t.id }; lifecycle = lifecycle_to t.lifecycle; replay_cursor = cursor_to t.cursor }

abbrev pub limits_to : Limits → ShellLifecycleLimits
limits_to l = record {
  max_transition_stimulus_bytes = l.stimulus_bytes;
  max_diagnostics_per_transition = l.diagnostics;
  max_patches_per_transition = l.patches;
  max_target_references_per_transition = l.references;
}

-- the one struct that stores a session
abbrev pub session_to : Session → ShellSession
session_to m = record {
  context = record { session_id = record { 0 = m.id }; limits = limits_to m.limits; catalog = catalog_to m.catalogue };
  state = state_to (step.state_of m);
  local_projection = stored_state m.projection;
}

lifecycle_back : (l : ShellLifecycle) → l ≡ lifecycle_to (lifecycle_of l)
unfolding lifecycle_to
lifecycle_back Created = refl
lifecycle_back Active = refl
lifecycle_back Suspended = refl
lifecycle_back Closed = refl

pub cursor_back : (c : ProjectionReplayCursor) → c ≡ cursor_to (cursor_of c)
unfolding cursor_to cursor_of
cursor_back Uninitialized = refl
cursor_back (At n) = refl

pub state_back : (t : ShellLocalState) → t ≡ state_to (shell_state_of t)
state_back t = λ i. record { session_id = t.session_id; lifecycle = lifecycle_back t.lifecycle i; replay_cursor = cursor_back t.replay_cursor i }

pub one_struct : (s : ShellSession) (m : Session) → Holds s m → s ≡ session_to m
one_struct s m h = λ i. record {
  context = record { session_id = record { 0 = h.id i }; limits = ap limits_to h.limits i; catalog = h.catalogue i };
  state = (state_back s.state ∙ ap state_to h.state) i;
  local_projection = one_state m.projection s.local_projection (stored_state m.projection) h.projection (some_state m.projection h.projection.tables.valid) i;
}
