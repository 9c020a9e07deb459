-- The anchors of a catalogue as they are lent: ids as they are, and two numbers for each pair.
use Rattle.std.specs.Prelude.{ℕ, ◌≡◌}
use mathlib.Core.List.{List, map, flat_map}
use Rattle.spec_session.specs.Session.{Catalogue}
use Rattle.active_projection_target_catalog.specs.Catalog.{pair_to, pair_numbers}

pub record Lent (c : Catalogue) (nodes bindings collections : List ℕ) : Type 0 where
  pub nodes_are : nodes ≡ c.nodes
  pub bindings_are : bindings ≡ flat_map pair_numbers (map pair_to c.bindings)
  pub collections_are : collections ≡ c.collections
