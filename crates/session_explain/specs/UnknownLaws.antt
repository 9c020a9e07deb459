-- Whether a target is known, and the answers of the search.
use Rattle.std.specs.Prelude.{ℕ, ◌+◌, ◌≡◌, refl, Bool, true, false, eqb, if◌then◌else◌}
use mathlib.Core.List.{List, [], ◌∷◌, flat_map}
use Rattle.std.proofs.Math.Option.{none, some}
use Rattle.std.proofs.Common.{arith}
use Rattle.spec_patch.specs.Patch.{Operation}
use Rattle.spec_checks.specs.Target.{mutation_target}
use Rattle.spec_projection.specs.Effects.{target_of}
use Rattle.spec_session.specs.Session.{Catalogue}
use Rattle.spec_session.specs.Batch.{in_catalogue, absent_targets}
use Rattle.spec_explain.specs.Walk.{tested}
use Rattle.spec_explain.specs.Explain.{target_known}
use Rattle.check_targets.specs.Targets.{target_numbers}
use Rattle.check_quick.specs.Anchors.{anchored, absent_one, absent_among}
use Rattle.session_gates.specs.Lent.{Lent}
use Rattle.session_gates.proofs.LentLaws.{absent_is}

-- the target of an operation is lent exactly if the catalogue has it
pub known_is : (c : Catalogue) (nodes bindings collections : List ℕ) → Lent c nodes bindings collections → (o : Operation) → eqb (absent_one (anchored nodes bindings collections) (mutation_target o)) 0 ≡ target_known c o
unfolding target_known absent_among absent_targets target_numbers flat_map
known_is c nodes bindings collections lent o = by_counts (anchored nodes bindings collections (mutation_target o)) (in_catalogue c (target_of o)) counted
  where
    counted : (if anchored nodes bindings collections (mutation_target o) then 0 else 1) + 0 ≡ (if in_catalogue c (target_of o) then 0 else 1) + 0
    counted = absent_is c nodes bindings collections lent (o ∷ [])

    by_counts : (a b : Bool) → (if a then 0 else 1) + 0 ≡ (if b then 0 else 1) + 0 → eqb (if a then 0 else 1) 0 ≡ b
    by_counts true true e = refl
    by_counts true false e = absurd (omega arith)
    by_counts false true e = absurd (omega arith)
    by_counts false false e = refl

-- one step of the walk
pub step_on : (test : Operation → Bool) (id : ℕ) (o : Operation) → test o ≡ true → tested test tt id o ≡ some tt
unfolding tested
step_on test id o e = rw e

pub step_halts : (test : Operation → Bool) (id : ℕ) (o : Operation) → test o ≡ false → tested test tt id o ≡ none
unfolding tested
step_halts test id o e = rw e
