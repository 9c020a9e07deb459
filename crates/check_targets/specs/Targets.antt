-- What an operation changes, as three numbers of a list: 01, 'Patch checks', kind 3.
use Rattle.std.specs.Prelude.{ℕ, ◌+◌, Bool, false, ◌&&◌, ◌||◌, List, [], ◌∷◌, ◌++◌, eqb, get_or, take, drop}
use Rattle.spec_patch.specs.Patch.{Operation}
use Rattle.spec_checks.specs.Target as model
use Rattle.check_targets.specs.declared.MutationTarget.{MutationTarget}

abbrev pub check_target_of : MutationTarget → model.MutationTarget
check_target_of t = record { kind = t.kind; first = t.first; second = t.second }

abbrev pub made_of : ℕ → ℕ → ℕ → model.MutationTarget
made_of k f s = record { kind = k; first = f; second = s }

unfoldable pub equal_targets : model.MutationTarget → model.MutationTarget → Bool
equal_targets a b = eqb a.kind b.kind && (eqb a.first b.first && eqb a.second b.second)

-- the target, told of three numbers with the last first
abbrev pub tells_target : model.MutationTarget → List ℕ → Bool
tells_target t n = eqb (get_or n 2 0) t.second && (eqb (get_or n 1 0) t.first && eqb (get_or n 0 0) t.kind)

abbrev pub numbers_of : model.MutationTarget → List ℕ
numbers_of t = t.kind ∷ t.first ∷ t.second ∷ []

-- the numbers that an operation leaves for later ones
unfoldable pub target_numbers : Operation → List ℕ
target_numbers o = numbers_of (model.mutation_target o)

-- the target is one of those in the list, three numbers each
unfoldable pub target_seen : model.MutationTarget → List ℕ → Bool
target_seen t [] = false
target_seen t (k ∷ []) = false
target_seen t (k ∷ f ∷ []) = false
target_seen t (k ∷ f ∷ s ∷ ns) = equal_targets t (record { kind = k; first = f; second = s }) || target_seen t ns

-- a target put behind the first used numbers
unfoldable pub with_target : ℕ → model.MutationTarget → List ℕ → List ℕ
with_target used t ns = take used ns ++ (numbers_of t ++ drop (used + 3) ns)
