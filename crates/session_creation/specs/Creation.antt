-- Creation: 01, 'Rejections born of the input' (13) and 'Sizes'.
use Rattle.std.specs.Prelude.{ℕ, ◌≡◌, Bool, ◌&&◌, List, [], map, leb, length, if◌then◌else◌, Ok, Err}
use Rattle.spec_patch.specs.Sizes.{anchors}
use Rattle.spec_projection.specs.Projection.{empty}
use Rattle.spec_session.specs.Session as model
use Rattle.session_lifecycle.specs.declared.state.ShellLifecycleLimits.{ShellLifecycleLimits}
use Rattle.session_lifecycle.specs.declared.state.ShellLifecycle.TheVariants.{Closed}
use Rattle.session_lifecycle.specs.declared.state.ProjectionReplayCursor.TheVariants.{Uninitialized}
use Rattle.active_projection_target_catalog.specs.Catalog.{pair_of, no_pair, padded_pairs, catalog_with}
use Rattle.active_projection_target_catalog.specs.declared.catalog.BindingPair.{BindingPair}
use Rattle.local_projection_state.specs.Stores.{stored_state}
use Rattle.shell_player.specs.declared.session.ShellSession.{ShellSession}
use Rattle.session_creation.specs.declared.CreationRefusal.TheVariants.{AnchorsOverCapacity}
use Rattle.session_creation.specs.declared.ShellSessionCreation.{ShellSessionCreation}
use Rattle.shell_player.specs.Holds.{Holds}
use Rattle.shell_player.specs.Steps.{new_state}

-- no list is over 128
unfoldable pub anchors_within : ℕ → ℕ → ℕ → Bool
anchors_within nodes pairs collections = leb nodes anchors && (leb pairs anchors && leb collections anchors)

-- what stands in the place of a session where there is none
unfoldable pub no_session_lem : ShellSession
no_session_lem = record {
  context = record {
    session_id = record { 0 = 0 };
    limits = record {
      max_transition_stimulus_bytes = 0;
      max_diagnostics_per_transition = 0;
      max_patches_per_transition = 0;
      max_target_references_per_transition = 0;
    };
    catalog = catalog_with [] (padded_pairs no_pair []) 0 [];
  };
  state = record { session_id = record { 0 = 0 }; lifecycle = Closed; replay_cursor = Uninitialized };
  local_projection = stored_state empty;
}

-- a new session; the pairs stand in the array that the session keeps, and so many of them are given
abbrev pub fresh_session : ℕ → ShellLifecycleLimits → List ℕ → List BindingPair → ℕ → List ℕ → ShellSession
fresh_session id limits nodes pairs given collections =
    new_state (record { session_id = record { 0 = id }; limits = limits; catalog = catalog_with nodes pairs given collections })

-- the answer, field by field
unfoldable pub creation_with : ℕ → ShellLifecycleLimits → List ℕ → List BindingPair → ℕ → List ℕ → ShellSessionCreation
creation_with id limits nodes pairs given collections =
    if anchors_within (length nodes) given (length collections)
    then record { answer = Ok tt; session = fresh_session id limits nodes pairs given collections }
    else record { answer = Err AnchorsOverCapacity; session = no_session_lem }

-- the anchors in the model
abbrev pub catalogue_from : List ℕ → List BindingPair → List ℕ → model.Catalogue
catalogue_from nodes pairs collections = record { nodes = nodes; bindings = map pair_of pairs; collections = collections }

-- an answer stands for a creation: its session is stored, or there is none
unfoldable pub Creates : model.Creation → ShellSessionCreation → Type 0
Creates (model.made m) r = (r.answer ≡ Ok tt) × Holds r.session m
Creates (model.refused f) r = (r.answer ≡ Err AnchorsOverCapacity) × (r.session ≡ no_session_lem)
