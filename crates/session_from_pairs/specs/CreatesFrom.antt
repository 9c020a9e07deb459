-- Creation from three lent lists of any length: 01, 'Rejections born of the input' (13).
use Rattle.std.specs.Prelude.{ℕ, ◌≡◌, List, length}
use Rattle.spec_session.specs.Session as model
use Rattle.session_lifecycle.specs.declared.state.ShellLifecycleLimits.{ShellLifecycleLimits}
use Rattle.session_lifecycle.specs.Meaning.{limits_of}
use Rattle.active_projection_target_catalog.specs.Catalog.{no_pair, padded_pairs}
use Rattle.active_projection_target_catalog.specs.declared.catalog.BindingPair.{BindingPair}
use Rattle.session_creation.specs.Creation.{creation_with, catalogue_from, Creates}
use Rattle.session_creation.specs.declared.ShellSessionCreation.{ShellSessionCreation}

-- the answer field by field, and that it stands for the creation of the model
abbrev pub CreatesFrom : ℕ → ShellLifecycleLimits → List ℕ → List BindingPair → List ℕ → ShellSessionCreation → Type 0
CreatesFrom id limits nodes pairs collections r = (r ≡ creation_with id limits nodes (padded_pairs no_pair pairs) (length pairs) collections) × Creates (model.create id (limits_of limits) (catalogue_from nodes pairs collections)) r
