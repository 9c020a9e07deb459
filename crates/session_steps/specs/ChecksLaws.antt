-- The anchors that a batch lends are those of the catalogue.
use Rattle.std.specs.Prelude.{ℕ, ◌-◌, ◌*◌, min, ◌≡◌, length}
use Rattle.std.proofs.Math.Path.{sym, ap}
use Rattle.std.proofs.Common.{◌∙◌, arith}
use mathlib.Core.List.{List, map, flat_map}
use Rattle.std.proofs.Math.ListN.{take}
use Rattle.spec_patch.specs.Sizes.{anchors}
use Rattle.spec_session.specs.Session.{Catalogue}
use Rattle.active_projection_target_catalog.specs.Catalog.{pair_to, pair_numbers, catalogue_of}
use Rattle.active_projection_target_catalog.proofs.CatalogLaws.{pairs_again, take_held, pairs_taken}
use Rattle.active_projection_target_catalog.specs.declared.catalog.ActiveProjectionTargetCatalog.{ActiveProjectionTargetCatalog}
use Rattle.session_gates.specs.Lent.{Lent}

module _ (k : ActiveProjectionTargetCatalog) (long-nodes : length k.node_anchors ≡ anchors) (long-pairs : length k.binding_anchors ≡ anchors) (long-collections : length k.collection_anchors ≡ anchors) where
  pub lent_anchors : (a b c : ℕ) → a ≡ min k.node_count anchors → b ≡ min k.binding_count anchors → c ≡ min k.collection_count anchors
      → (numbers : List ℕ) → numbers ≡ flat_map pair_numbers k.binding_anchors → Lent (catalogue_of k) (take a k.node_anchors) (take (2 * b) numbers) (take c k.collection_anchors)
  unfolding catalogue_of
  lent_anchors a b c nodes bindings collections numbers apart = record {
    nodes_are = ap (λ n. take n k.node_anchors) nodes ∙ take_held k.node_anchors k.node_count long-nodes;
    bindings_are =
        ap (take (2 * b)) apart ∙ pairs_taken b k.binding_anchors
        ∙ ap (λ n. flat_map pair_numbers (take n k.binding_anchors)) bindings
        ∙ ap (flat_map pair_numbers) (take_held k.binding_anchors k.binding_count long-pairs ∙ sym (pairs_again (take k.binding_count k.binding_anchors)));
    collections_are = ap (λ n. take n k.collection_anchors) collections ∙ take_held k.collection_anchors k.collection_count long-collections;
  }

-- anchors that are lent from arrays
pub lent_parts : {k m : Catalogue} (x y z : List ℕ) (a b c : ℕ) → k ≡ m → Lent k (take a x) (take b y) (take c z) → Lent m (take (a - 0) x) (take (b - 0) y) (take (c - 0) z)
lent_parts x y z a b c is h =
    let nodes : a - 0 ≡ a = omega arith in
    let bindings : b - 0 ≡ b = omega arith in
    let collections : c - 0 ≡ c = omega arith in
    record {
      nodes_are = ap (λ n. take n x) nodes ∙ h.nodes_are ∙ ap (λ (k : Catalogue). k.nodes) is;
      bindings_are = ap (λ n. take n y) bindings ∙ h.bindings_are ∙ ap (λ (k : Catalogue). flat_map pair_numbers (map pair_to k.bindings)) is;
      collections_are = ap (λ n. take n z) collections ∙ h.collections_are ∙ ap (λ (k : Catalogue). k.collections) is;
    }
