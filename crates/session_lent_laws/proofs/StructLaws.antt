-- A half that holds a session has the numbers and bytes of the one struct that stores it.
use Rattle.std.specs.Prelude.{◌≡◌, refl, length}
use Rattle.std.proofs.Common.{sym, ◌∙◌}
use Rattle.std.proofs.Math.Path.{ap}
use mathlib.Core.List.{List, [], ◌∷◌, flat_map, map}
use Rattle.std.proofs.lemmas.List.{length-map}
use Rattle.spec_session.specs.Session as model
use Rattle.spec_session.specs.Session.{Lifecycle, Cursor, Catalogue, Session}
use Rattle.spec_session.specs.Lifecycle.{LocalState}
use Rattle.spec_session.specs.Lifecycle as step
use Rattle.active_projection_target_catalog.specs.Catalog.{pair_to, no_pair, padded_pairs, catalog_with, catalogue_of, catalog_to, pair_numbers}
use Rattle.active_projection_target_catalog.proofs.CatalogLaws.{catalogue_back}
use Rattle.active_projection_target_catalog.specs.declared.catalog.BindingPair.{BindingPair}
use Rattle.session_gates.specs.Lent.{Lent}
use Rattle.session_lifecycle.specs.Meaning.{lifecycle_of, cursor_of, shell_state_of}
use Rattle.local_projection_state.specs.StoresLaws.{one_projection}
use Rattle.shell_player.specs.Holds as struct
use Rattle.shell_player.specs.HoldsLaws.{lifecycle_to, cursor_to, state_to, one_struct}
use Rattle.shell_player.specs.declared.session.ShellSession.{ShellSession}
use Rattle.session_lent.specs.Head.{state_at}
use Rattle.session_lent.specs.HeadLaws.{state_told, limits_told}
use Rattle.session_lent.specs.BatchesLaws.{held_tables}
use Rattle.session_lent.specs.Halves.{Anchors, Half, HeldIn}
use Rattle.session_lent_laws.specs.Memory.{pairs_in, catalog_in, struct_in}

-- ---- a struct stores one session

cursor_same : (a b : Session) → step.state_of a ≡ step.state_of b → (a.lifecycle ≡ b.lifecycle) × (a.cursor ≡ b.cursor)
unfolding step.state_of
cursor_same a b e = (ap (λ (t : LocalState). t.lifecycle) e, ap (λ (t : LocalState). t.cursor) e)

pub one_session : (s : ShellSession) (a b : Session) → struct.Holds s a → struct.Holds s b → a ≡ b
one_session s a b g h =
    let state = cursor_same a b (sym g.state ∙ h.state) in
    let anchors : a.catalogue ≡ b.catalogue = sym (catalogue_back a.catalogue g.few) ∙ ap catalogue_of (sym g.catalogue ∙ h.catalogue) ∙ catalogue_back b.catalogue h.few in
    λ i. record {
      id = (sym g.id ∙ h.id) i;
      limits = (sym g.limits ∙ h.limits) i;
      catalogue = anchors i;
      lifecycle = state.0 i;
      cursor = state.1 i;
      projection = one_projection s.local_projection a.projection b.projection g.projection h.projection i;
    }

-- ---- the struct of a half stores what the half holds

pub pairs_told : (bs : List BindingPair) → pairs_in (flat_map pair_numbers bs) ≡ bs
unfolding pairs_in pair_numbers flat_map
pairs_told [] = refl
pairs_told (b ∷ bs) = ap (λ (l : List BindingPair). b ∷ l) (pairs_told bs)

anchors_told : (k : Anchors) (c : Catalogue) → Lent c k.nodes k.pairs k.collections → catalog_in k ≡ catalog_to c
unfolding catalog_to
anchors_told k c l =
    let pairs : pairs_in k.pairs ≡ map pair_to c.bindings = ap pairs_in l.bindings_are ∙ pairs_told (map pair_to c.bindings) in
    let count : length (pairs_in k.pairs) ≡ length c.bindings = ap length pairs ∙ length-map c.bindings pair_to in
    λ i. catalog_with (l.nodes_are i) (padded_pairs no_pair (pairs i)) (count i) (l.collections_are i)

lifecycle_told : (l : Lifecycle) → lifecycle_of (lifecycle_to l) ≡ l
unfolding lifecycle_to
lifecycle_told model.created = refl
lifecycle_told model.active = refl
lifecycle_told model.suspended = refl
lifecycle_told model.closed = refl

pub cursor_told : (c : Cursor) → cursor_of (cursor_to c) ≡ c
unfolding cursor_to cursor_of
cursor_told model.uninitialized = refl
cursor_told (model.at n) = refl

state_again : (t : LocalState) → shell_state_of (state_to t) ≡ t
state_again t = λ i. record { id = t.id; lifecycle = lifecycle_told t.lifecycle i; cursor = cursor_told t.cursor i }

module _ (k : Anchors) (h : Half) (m : Session) (held : HeldIn k h m) where
  id_told : (t : LocalState) → t ≡ step.state_of m → t.id ≡ m.id
  unfolding step.state_of
  id_told t e = ap (λ (x : LocalState). x.id) e

  pub struct_holds : struct.Holds (struct_in k h) m
  struct_holds = record {
    id = id_told (state_at h.head) (state_told h.head m held.head_is);
    limits = limits_told h.head m held.head_is;
    catalogue = anchors_told k m.catalogue held.anchors_are;
    few = held.few;
    state = state_again (state_at h.head) ∙ state_told h.head m held.head_is;
    projection = record { tables = held_tables m held; lengths = held.collections_told };
  }

  -- the session by value has the same numbers and the same bytes
  pub same_bytes : (s : ShellSession) → struct.Holds s m → s ≡ struct_in k h
  same_bytes s by_value = one_struct s m by_value ∙ sym (one_struct (struct_in k h) m struct_holds)
