-- What the answer claims of a projection: 02, Job 8. Theorem has the claims.
use Rattle.std.specs.Prelude.{ℕ, ◌≡◌, Bool, true, false, length}
use mathlib.Core.List.{List, [], ◌∷◌, ◌++◌, flat_map, Memᴰ}
use Rattle.spec_lists.specs.Lists.{All}
use Rattle.spec_lists.specs.Order.{Ascending}
use Rattle.spec_patch.specs.Patch.{Operation, Patch}
use Rattle.spec_projection.specs.Projection.{Projection}
use Rattle.spec_projection.specs.Apply.{done, replay_steps, operations_of, apply_steps}
use Rattle.spec_dependencies.specs.Expectations.{Expectation, expectations}
use Rattle.spec_dependencies.specs.Dependencies.{CollectionKey, key_words, Dependencies, never_applicable, needs}
use Rattle.spec_dependencies.specs.Presence.{Presence, presence, Accepts}

-- a set applies to a projection: step 9 of a batch, alone
abbrev pub AppliesTo : Projection → List Patch → Type 0
AppliesTo p ps = (q : Projection) × (apply_steps p (replay_steps ps) ≡ done q)

-- each of the keys is there, or each is not
abbrev pub Each : Bool → Projection → List CollectionKey → Type 0
Each b p = All (λ (k : CollectionKey). presence p k.collection k.key ≡ b)

-- not reported as never applicable, and the projection holds all of the first keys and none of the second
abbrev pub Meets : Projection → Dependencies → Type 0
Meets p (never_applicable i j) = ⊥
Meets p (needs held lacked) = Each true p held × Each false p lacked

-- an answer's two lists: each strictly ascending by collection and key, and no pair in both
pub record ListsInOrder (held lacked : List CollectionKey) : Type 0 where
  pub held_ascending : Ascending key_words held
  pub lacked_ascending : Ascending key_words lacked
  pub apart : (k : CollectionKey) → Memᴰ k held → Memᴰ k lacked → ⊥

-- some start meets the expectations, one after the other
abbrev pub Possible : List Expectation → Type 0
Possible es = (h : Presence) × Accepts es h

-- the first operation that contradicts: some start meets all operations before it, and none meets these and it. Both indices count from 0, the second in its patch.
pub record FirstContradiction (ps : List Patch) (i j : ℕ) : Type 0 where
  pub earlier : List Patch
  pub patch : Patch
  pub later : List Patch
  pub patches : ps ≡ earlier ++ (patch ∷ later)
  pub patch_index : length earlier ≡ i
  pub before : List Operation
  pub operation : Operation
  pub behind : List Operation
  pub operations : patch.operations ≡ before ++ (operation ∷ behind)
  pub operation_index : length before ≡ j
  pub possible : Possible (flat_map expectations (operations_of earlier ++ before))
  pub impossible : ¬ Possible (flat_map expectations (operations_of earlier ++ (before ++ (operation ∷ []))))
