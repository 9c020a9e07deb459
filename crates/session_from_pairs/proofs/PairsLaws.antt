-- What the loop has copied after i turns.
use Rattle.std.specs.Prelude.{ℕ, ◌+◌, ◌-◌, ◌<◌, min, ◌≡◌, List, ◌++◌, leb, length, replicate, take, get_or}
use Rattle.std.proofs.Math.Path.{refl, ap}
use Rattle.std.proofs.Common.{arith}
use borrow.Author.Tests.{leb-true, leb-false}
use Rattle.spec_lists.proofs.ListLaws.{test_cases}
use Rattle.spec_patch.specs.Sizes.{anchors}
use Rattle.active_projection_target_catalog.specs.Catalog.{no_pair}
use Rattle.active_projection_target_catalog.proofs.CatalogLaws.{padded_turn, padded_short, padded_full}
use Rattle.active_projection_target_catalog.specs.declared.catalog.BindingPair.{BindingPair}
use Rattle.session_from_pairs.specs.declared.pairs.BindingAnchors.{BindingAnchors}
use Rattle.session_from_pairs.specs.Pairs.{no_pairs, with_pair, anchors_of}

abbrev holding : ℕ → List BindingPair → BindingAnchors
holding given pairs = record { pairs = pairs; given = given }

-- the first i pairs, and zero pairs behind them
unfoldable pub up_to_pair : List BindingPair → ℕ → BindingAnchors
up_to_pair ps i = holding (length ps) (take i ps ++ replicate (anchors - i) no_pair)

module _ (ps : List BindingPair) where
  pub starts : no_pairs (length ps) ≡ up_to_pair ps 0
  unfolding up_to_pair no_pairs
  starts = refl

  pub steps : (i : ℕ) → i < length ps → i < anchors → with_pair (up_to_pair ps i) i (get_or ps i no_pair) ≡ up_to_pair ps (i + 1)
  unfolding up_to_pair with_pair
  steps i below room = ap (holding (length ps)) (padded_turn no_pair ps i no_pair below room)

  pub all_copied : (i : ℕ) → i ≡ min (length ps) anchors → up_to_pair ps i ≡ anchors_of ps
  unfolding up_to_pair anchors_of
  all_copied i e =
      ap (holding (length ps))
      (test_cases (leb (length ps) anchors)
      (λ t. let few = leb-true (length ps) anchors t in padded_short no_pair ps i (omega (arith, e, few)) (omega (arith, e, few)))
      (λ t. let many = leb-false (length ps) anchors t in padded_full no_pair ps i (omega (arith, e, many)) (omega (arith, many))))
