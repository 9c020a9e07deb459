-- The targets that are absent from the lent anchors are those that are absent from the catalogue.
use Rattle.std.specs.Prelude.{ℕ, ◌+◌, ◌≡◌, Bool, ◌&&◌, if◌then◌else◌}
use Rattle.std.proofs.Math.Path.{refl, ap, ap₂}
use Rattle.std.proofs.Common.{◌∙◌}
use mathlib.Core.List.{List, [], ◌∷◌, map, flat_map}
use Rattle.std.proofs.Math.Dec.{eqb}
use Rattle.spec_lists.specs.Lists.{any}
use Rattle.spec_patch.specs.Patch.{Operation, set_binding, set_availability, insert, update, remove, move}
use Rattle.spec_checks.specs.Target.{mutation_target}
use Rattle.spec_projection.specs.Effects.{target_of}
use Rattle.spec_session.specs.Session.{BindingPair, Catalogue}
use Rattle.spec_session.specs.Batch.{in_catalogue, absent_targets}
use Rattle.active_projection_target_catalog.specs.Catalog.{pair_to, pair_seen}
use Rattle.active_projection_target_catalog.proofs.CatalogLaws.{seen_pairs, pairs_back}
use Rattle.check_targets.specs.Targets.{target_numbers}
use Rattle.check_quick.specs.Anchors.{anchored, absent_among, absent_of}
use Rattle.session_gates.specs.Lent.{Lent}

module _ (c : Catalogue) (nodes bindings collections : List ℕ) (lent : Lent c nodes bindings collections) where
  anchored_is : (o : Operation) → anchored nodes bindings collections (mutation_target o) ≡ in_catalogue c (target_of o)
  unfolding anchored mutation_target in_catalogue target_of
  anchored_is (set_binding node slot v) =
      ap (pair_seen node slot) lent.bindings_are ∙ seen_pairs node slot (map pair_to c.bindings)
      ∙ ap (any (λ (b : BindingPair). eqb b.node node && eqb b.slot slot)) (pairs_back c.bindings)
  anchored_is (set_availability node a) = ap (any (eqb node)) lent.nodes_are
  anchored_is (insert k key before v) = ap (any (eqb k)) lent.collections_are
  anchored_is (update k key v) = ap (any (eqb k)) lent.collections_are
  anchored_is (remove k key) = ap (any (eqb k)) lent.collections_are
  anchored_is (move k key before) = ap (any (eqb k)) lent.collections_are

  pub absent_is : (os : List Operation) → absent_of (anchored nodes bindings collections) os ≡ absent_targets c os
  unfolding absent_among absent_targets target_numbers flat_map
  absent_is [] = refl
  absent_is (o ∷ os) = ap₂ (λ (t : Bool) (n : ℕ). (if t then 0 else 1) + n) (anchored_is o) (absent_is os)
