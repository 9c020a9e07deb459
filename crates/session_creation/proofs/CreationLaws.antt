-- The answer of creation stands for the creation of the model.
use Rattle.std.specs.Prelude.{ℕ, ◌≡◌, refl, Bool, ◌&&◌, length, if◌then◌else◌, Ok, Err}
use Rattle.std.proofs.Common.{sym}
use Rattle.std.proofs.Math.Path.{ap, ap₂, subst}
use Rattle.std.proofs.Math.Bool.{true, false}
use mathlib.Core.List.{List}
use Rattle.std.proofs.Math.Dec.{leb}
use Rattle.std.proofs.lemmas.List.{length-map}
use Rattle.spec_patch.specs.Sizes.{anchors}
use Rattle.spec_projection.specs.Projection.{empty}
use Rattle.spec_projection.proofs.ValidLaws.{empty_valid}
use Rattle.spec_session.specs.Session as model
use Rattle.spec_session.specs.Session.{Catalogue, anchors_fit, new_session, create}
use Rattle.spec_session.specs.Lifecycle.{state_of}
use Rattle.spec_session.proofs.ValidSessionLaws.{few_anchors}
use Rattle.session_lifecycle.specs.Meaning.{limits_of, cursor_of}
use Rattle.session_lifecycle.specs.declared.state.ShellLifecycleLimits.{ShellLifecycleLimits}
use Rattle.active_projection_target_catalog.specs.Catalog.{pair_of, no_pair, padded_pairs, catalog_with, catalog_to}
use Rattle.active_projection_target_catalog.proofs.CatalogLaws.{pairs_again}
use Rattle.active_projection_target_catalog.specs.declared.catalog.BindingPair.{BindingPair}
use Rattle.local_projection_state.specs.StoresLaws.{some_state}
use Rattle.shell_player.specs.declared.session.ShellSession.{ShellSession}
use Rattle.session_creation.specs.declared.CreationRefusal.TheVariants.{AnchorsOverCapacity}
use Rattle.session_creation.specs.declared.ShellSessionCreation.{ShellSessionCreation}
use Rattle.shell_player.specs.Holds.{Holds}
use Rattle.shell_player.specs.Steps.{new_state}
use Rattle.session_creation.specs.Creation.{anchors_within, no_session_lem, fresh_session, creation_with, catalogue_from, Creates}

module _ (id : ℕ) (limits : ShellLifecycleLimits) (nodes : List ℕ) (ps : List BindingPair) (collections : List ℕ) where
  abbrev listed : Catalogue
  listed = catalogue_from nodes ps collections

  same_fit : anchors_fit listed ≡ anchors_within (length nodes) (length ps) (length collections)
  unfolding anchors_fit anchors_within
  same_fit = ap (λ n. leb (length nodes) anchors && (leb n anchors && leb (length collections) anchors)) (length-map ps pair_of)

  same_catalogue : catalog_with nodes (padded_pairs no_pair ps) (length ps) collections ≡ catalog_to listed
  unfolding catalog_to
  same_catalogue = ap₂ (λ (n : ℕ) (bs : List BindingPair). catalog_with nodes (padded_pairs no_pair bs) n collections) (sym (length-map ps pair_of)) (sym (pairs_again ps))

  fresh_holds : anchors_fit listed ≡ true → Holds (fresh_session id limits nodes (padded_pairs no_pair ps) (length ps) collections) (new_session id (limits_of limits) listed)
  unfolding new_state new_session state_of cursor_of
  fresh_holds fit = record {
    id = refl;
    limits = refl;
    catalogue = same_catalogue;
    few = few_anchors listed fit;
    state = refl;
    projection = some_state empty empty_valid;
  }

  -- creation on the array of the pairs, zeros behind them, is the creation of the model
  pub creates : Creates (create id (limits_of limits) listed) (creation_with id limits nodes (padded_pairs no_pair ps) (length ps) collections)
  unfolding Creates creation_with create
  creates = subst (λ (t : Bool). Creates (create id (limits_of limits) listed) (if t then record { answer = Ok tt; session = fresh_session id limits nodes (padded_pairs no_pair ps) (length ps) collections } else record { answer = Err AnchorsOverCapacity; session = no_session_lem })) same_fit (go (anchors_fit listed) refl)
    where
      go : (t : Bool) → anchors_fit listed ≡ t
          → Creates (if t then model.made (new_session id (limits_of limits) listed) else model.refused model.too_many_anchors) (if t then record { answer = Ok tt; session = fresh_session id limits nodes (padded_pairs no_pair ps) (length ps) collections } else record { answer = Err AnchorsOverCapacity; session = no_session_lem })
      go true f = (refl, fresh_holds f)
      go false f = (refl, refl)

-- ---- what the code hands back

module _ (id : ℕ) (limits : ShellLifecycleLimits) (nodes : List ℕ) (pairs : List BindingPair) (given : ℕ) (collections : List ℕ) (s : ShellSession) where
  pub refused_creation : anchors_within (length nodes) given (length collections) ≡ false → s ≡ no_session_lem → ◌≡◌ {A = ShellSessionCreation} (record { answer = Err AnchorsOverCapacity; session = s }) (creation_with id limits nodes pairs given collections)
  unfolding creation_with
  refused_creation w e = rw (w, e)

  pub made_creation : anchors_within (length nodes) given (length collections) ≡ true → s ≡ fresh_session id limits nodes pairs given collections → ◌≡◌ {A = ShellSessionCreation} (record { answer = Ok tt; session = s }) (creation_with id limits nodes pairs given collections)
  unfolding creation_with
  made_creation w e = rw (w, e)
