-- What the catalogue's fields stand for in spec_session: 01, step 7 of a batch, and 'Sizes'.
use Rattle.std.specs.Prelude.{ℕ, ◌-◌, Bool, false, ◌&&◌, ◌||◌, List, [], ◌∷◌, ◌++◌, map, eqb, length, take, replicate}
use Rattle.spec_patch.specs.Sizes.{anchors}
use Rattle.spec_session.specs.Session as model
use Rattle.active_projection_target_catalog.specs.declared.catalog.BindingPair.{BindingPair}
use Rattle.active_projection_target_catalog.specs.declared.catalog.ActiveProjectionTargetCatalog.{ActiveProjectionTargetCatalog}

abbrev pub pair_of : BindingPair → model.BindingPair
pair_of b = record { node = b.node; slot = b.slot }

-- the anchors that the counts name; the rest of the arrays is unused
unfoldable pub catalogue_of : ActiveProjectionTargetCatalog → model.Catalogue
catalogue_of c = record {
  nodes = take c.node_count c.node_anchors;
  bindings = map pair_of (take c.binding_count c.binding_anchors);
  collections = take c.collection_count c.collection_anchors;
}

-- ---- an array of anchors: the first that there is room for, and zeros behind them

abbrev pub no_pair : BindingPair
no_pair = record { node = 0; slot = 0 }

unfoldable pub padded_pairs : {A : Type 0} → A → List A → List A
padded_pairs none l = take anchors l ++ replicate (anchors - length l) none

-- the catalogue of given anchors; the pairs stand in their array, and so many of them are given
unfoldable pub catalog_with : List ℕ → List BindingPair → ℕ → List ℕ → ActiveProjectionTargetCatalog
catalog_with nodes pairs count collections = record {
  node_count = length nodes;
  binding_count = count;
  collection_count = length collections;
  node_anchors = padded_pairs 0 nodes;
  binding_anchors = pairs;
  collection_anchors = padded_pairs 0 collections;
}

-- a pair of the model
abbrev pub pair_to : model.BindingPair → BindingPair
pair_to b = record { node = b.node; slot = b.slot }

-- the one catalogue that stores the anchors of a session
unfoldable pub catalog_to : model.Catalogue → ActiveProjectionTargetCatalog
catalog_to m = catalog_with m.nodes (padded_pairs no_pair (map pair_to m.bindings)) (length m.bindings) m.collections

-- ---- pairs taken apart

-- a pair as two numbers
unfoldable pub pair_numbers : BindingPair → List ℕ
pair_numbers b = b.node ∷ b.slot ∷ []

-- the pair is one of those in the list, two numbers each
unfoldable pub pair_seen : ℕ → ℕ → List ℕ → Bool
pair_seen node slot [] = false
pair_seen node slot (n ∷ []) = false
pair_seen node slot (n ∷ s ∷ ns) = (eqb n node && eqb s slot) || pair_seen node slot ns
