-- Which operations have a target that is none of the lent anchors: 01, step 7 of a batch.
use Rattle.std.specs.Prelude.{ℕ, ◌+◌, Bool, eqb, if◌then◌else◌}
use mathlib.Core.List.{List, [], ◌∷◌, flat_map}
use Rattle.spec_lists.specs.Lists.{any}
use Rattle.spec_patch.specs.Patch.{Operation}
use Rattle.spec_checks.specs.Target.{MutationTarget}
use Rattle.check_targets.specs.Targets.{made_of, target_numbers}
use Rattle.active_projection_target_catalog.specs.Catalog.{pair_seen}

-- the target is a binding among the pairs, two numbers each, a node, or a collection
unfoldable pub anchored : (nodes bindings collections : List ℕ) → MutationTarget → Bool
anchored nodes bindings collections t =
    if eqb t.kind 1 then pair_seen t.first t.second bindings else
    if eqb t.kind 2 then any (eqb t.first) nodes else
    any (eqb t.first) collections

abbrev pub absent_one : (MutationTarget → Bool) → MutationTarget → ℕ
absent_one known t = if known t then 0 else 1

-- how many of the targets, three numbers each, the test does not know; repeats count
unfoldable pub absent_among : (MutationTarget → Bool) → List ℕ → ℕ
absent_among known [] = 0
absent_among known (k ∷ []) = 0
absent_among known (k ∷ f ∷ []) = 0
absent_among known (k ∷ f ∷ s ∷ ns) = absent_one known (made_of k f s) + absent_among known ns

-- how many operations have such a target
abbrev pub absent_of : (MutationTarget → Bool) → List Operation → ℕ
absent_of known os = absent_among known (flat_map target_numbers os)
