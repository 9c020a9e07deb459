-- When operations may be put into another order: 02, Job 9. A target is what an operation is on: one binding (node and slot), one node's
-- availability, or one collection as a whole; the patch checks, for their part, tell its keys apart.
use Rattle.std.specs.Prelude.{ℕ, ◌+◌, ◌≤◌, ◌≡◌, ◌≢◌, ◌⊎◌, Bool, false, ◌&&◌, List, [], ◌∷◌, eqb, length, if◌then◌else◌}
use Rattle.spec_patch.specs.Sizes.{projection_entries}
use Rattle.spec_patch.specs.Patch.{Operation, set_binding, set_availability, insert, update, remove, move}
use Rattle.spec_projection.specs.Projection.{Projection}
use Rattle.spec_projection.specs.Apply.{projection_full, Outcome, done, stopped, ReplayStep, step_operations, apply_operation, and_then, apply_steps}
use Rattle.spec_projection.specs.Marks.{without_marks}
use Rattle.spec_projection.specs.Valid.{Valid}
use Rattle.spec_projection.specs.Effects.{Target, binding_target, node_target, collection_target, target_of}

-- ---- which rearrangements are meant

-- the same binding, the same node's availability, the same collection
unfoldable pub is_same_target : Target → Target → Bool
is_same_target (binding_target n s) (binding_target m t) = eqb n m && eqb s t
is_same_target (binding_target n s) (node_target m) = false
is_same_target (binding_target n s) (collection_target d) = false
is_same_target (node_target n) (binding_target m t) = false
is_same_target (node_target n) (node_target m) = eqb n m
is_same_target (node_target n) (collection_target d) = false
is_same_target (collection_target c) (binding_target m t) = false
is_same_target (collection_target c) (node_target m) = false
is_same_target (collection_target c) (collection_target d) = eqb c d

-- the operations on one target, in the order of the list
unfoldable pub operations_on : Target → List Operation → List Operation
operations_on t [] = []
operations_on t (o ∷ os) = if is_same_target (target_of o) t then o ∷ operations_on t os else operations_on t os

-- Every target has the same operations in the same order in both lists. An operation is on one target, so none is lost, added or repeated:
-- the lists are rearrangements of each other (`kept_permutation`), and just those that keep the order on each target (`kept_exactly`).
abbrev pub OrderKept : List Operation → List Operation → Type 0
OrderKept left right = (t : Target) → operations_on t left ≡ operations_on t right

-- the same in steps: two neighbours on different targets change places, anywhere and as often as one likes
pub data Exchanges : List Operation → List Operation → Type 0 where
  unchanged : (os : List Operation) → Exchanges os os
  exchange : (a b : Operation) (os : List Operation) → target_of a ≢ target_of b → Exchanges (a ∷ b ∷ os) (b ∷ a ∷ os)
  behind : {left right : List Operation} (o : Operation) → Exchanges left right → Exchanges (o ∷ left) (o ∷ right)
  further : {left middle right : List Operation} → Exchanges left middle → Exchanges middle right → Exchanges left right

-- ---- the claim

-- operations in order, all of patch 0, so that marks tell nothing apart; the first that fails, with 8 or 9, ends the run
unfoldable pub apply_operations : Projection → List Operation → Outcome
apply_operations p [] = done p
apply_operations p (o ∷ os) = and_then (apply_operation p 0 o) (λ q. apply_operations q os)

-- where both lists run to their end, from a projection that a session can hold, they leave the same projection
abbrev pub OrderIsFree : Projection → List Operation → List Operation → Type 0
OrderIsFree p left right =
    (q r : Projection) → Valid p → OrderKept left right → apply_operations p left ≡ done q → apply_operations p right ≡ done r → q ≡ r

-- the claim for steps, whatever patches the operations belong to: the same projection without its marks
abbrev pub StepOrderIsFree : Projection → List ReplayStep → List ReplayStep → Type 0
StepOrderIsFree p left right =
    (q r : Projection) → Valid p → OrderKept (step_operations left) (step_operations right) → apply_steps p left ≡ done q → apply_steps p right ≡ done r → without_marks q ≡ without_marks r

-- ---- where only one list is known to run

-- the other ends alike, or breaks off with 9, and never with 8
abbrev pub AlikeOrFull : Projection → List Operation → List Operation → Type 0
AlikeOrFull p left right =
    (q : Projection) → Valid p → OrderKept left right → apply_operations p left ≡ done q
    → (apply_operations p right ≡ done q) ⊎ (apply_operations p right ≡ stopped projection_full)

-- the entries that an operation adds
unfoldable pub inserted : Operation → ℕ
inserted (set_binding node slot v) = 0
inserted (set_availability node a) = 0
inserted (insert c k before v) = 1
inserted (update c k v) = 0
inserted (remove c k) = 0
inserted (move c k before) = 0

unfoldable pub insert_count : List Operation → ℕ
insert_count [] = 0
insert_count (o ∷ os) = inserted o + insert_count os

-- a place for every insert beside all that is stored, as if nothing were removed
abbrev pub HasRoom : Projection → List Operation → Type 0
HasRoom p os = length p.entries + insert_count os ≤ projection_entries

-- with that room the other runs, and ends alike
abbrev pub RunsWithRoom : Projection → List Operation → List Operation → Type 0
RunsWithRoom p left right =
    (q : Projection) → Valid p → OrderKept left right → HasRoom p left → apply_operations p left ≡ done q → apply_operations p right ≡ done q
