-- Creation from the copied pairs is creation from the lent list, and the session keeps them.
use Rattle.std.specs.Prelude.{ℕ, ◌-◌, ◌≤◌, ◌≡◌, refl, true, leb}
use Rattle.std.proofs.Common.{sym, ap, subst, take_all}
use mathlib.Core.List.{List, ◌++◌}
use borrow.Author.Tests.{leb-true}
use Rattle.std.proofs.Math.ListN.{length, replicate}
use Rattle.spec_lists.proofs.ListLaws.{and_left, and_right}
use Rattle.spec_patch.specs.Sizes.{anchors}
use Rattle.spec_session.specs.Session.{create}
use Rattle.session_lifecycle.specs.declared.state.ShellLifecycleLimits.{ShellLifecycleLimits}
use Rattle.session_lifecycle.specs.Meaning.{limits_of}
use Rattle.active_projection_target_catalog.specs.Catalog.{no_pair, padded_pairs, catalog_with}
use Rattle.active_projection_target_catalog.specs.declared.catalog.ActiveProjectionTargetCatalog.{ActiveProjectionTargetCatalog}
use Rattle.active_projection_target_catalog.specs.declared.catalog.BindingPair.{BindingPair}
use Rattle.shell_player.specs.Steps.{new_state}
use Rattle.session_creation.specs.Creation.{anchors_within, creation_with, catalogue_from, Creates}
use Rattle.session_creation.proofs.CreationLaws.{creates}
use Rattle.session_creation.specs.declared.ShellSessionCreation.{ShellSessionCreation}
use Rattle.session_from_pairs.specs.CreatesFrom.{CreatesFrom}

module _ (id : ℕ) (limits : ShellLifecycleLimits) (nodes : List ℕ) (ps : List BindingPair) (collections : List ℕ) where
  -- the answer on the copied pairs is that of the lent list
  pub copied_creates : (r : ShellSessionCreation) → r ≡ creation_with id limits nodes (padded_pairs no_pair ps) (length ps) collections → CreatesFrom id limits nodes ps collections r
  copied_creates r e = (e, subst (Creates (create id (limits_of limits) (catalogue_from nodes ps collections))) (sym e) (creates id limits nodes ps collections))

  abbrev kept : ActiveProjectionTargetCatalog
  kept = (creation_with id limits nodes (padded_pairs no_pair ps) (length ps) collections).session.context.catalog

  few : anchors_within (length nodes) (length ps) (length collections) ≡ true → length ps ≤ anchors
  unfolding anchors_within
  few w = leb-true (length ps) anchors (and_left (leb (length ps) anchors) (leb (length collections) anchors) (and_right (leb (length nodes) anchors) _ w))

  -- a created session's array of binding anchors is the lent list followed by zero pairs, and their count is its length
  pub keeps_pairs : anchors_within (length nodes) (length ps) (length collections) ≡ true → (kept.binding_anchors ≡ ps ++ replicate (anchors - length ps) no_pair) × (kept.binding_count ≡ length ps)
  unfolding creation_with new_state catalog_with padded_pairs
  keeps_pairs w = rw (kept, w) (ap (λ (l : List BindingPair). l ++ replicate (anchors - length ps) no_pair) (take_all anchors ps (few w)), refl)
