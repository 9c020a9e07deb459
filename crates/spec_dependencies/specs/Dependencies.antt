-- What a set depends on: one walk over its operations, and the answer. 02, Job 8.
use Rattle.std.specs.Prelude.{ℕ, ◌+◌, Bool, true, false, List, [], ◌∷◌, if◌then◌else◌}
use Rattle.std.specs.Bool.{beq}
use Rattle.std.proofs.Math.Option.{Option, none, some}
use Rattle.spec_patch.specs.Patch.{Operation, Patch}
use Rattle.spec_dependencies.specs.Expectations.{expectations}
use Rattle.spec_dependencies.specs.Settled.{Settled, judge_all}

-- ---- the walk

-- what all operations settle, or the patch and the operation in it, from 0, that contradicts those before
pub data SettlingWalk : Type 0 where
  settles : List Settled → SettlingWalk
  contradicts : (patch operation : ℕ) → SettlingWalk

-- goes on with what is settled
abbrev pub settle_on : SettlingWalk → (List Settled → SettlingWalk) → SettlingWalk
settle_on (settles t) f = f t
settle_on (contradicts i j) f = contradicts i j

-- an operation of that place, by what its expectations come to
abbrev pub settle_step : ℕ → ℕ → Option (List Settled) → SettlingWalk
settle_step i j none = contradicts i j
settle_step i j (some t) = settles t

-- the operations of patch i, from index j on
unfoldable pub settle_operations : ℕ → ℕ → List Operation → List Settled → SettlingWalk
settle_operations i j [] t = settles t
settle_operations i j (o ∷ os) t = settle_on (settle_step i j (judge_all (expectations o) t)) (λ u. settle_operations i (j + 1) os u)

-- the patches from index i on; each counts its operations from 0
unfoldable pub settle_patches : ℕ → List Patch → List Settled → SettlingWalk
settle_patches i [] t = settles t
settle_patches i (p ∷ ps) t = settle_on (settle_operations i 0 p.operations t) (λ u. settle_patches (i + 1) ps u)

-- ---- the answer

-- a key of a collection
pub record CollectionKey : Type 0 where
  pub collection : ℕ
  pub key : ℕ

abbrev pub collection_key : Settled → CollectionKey
collection_key s = record { collection = s.collection; key = s.key }

-- order is collection, then key, and so is a record's layout
unfoldable pub key_words : CollectionKey → List ℕ
key_words k = k.collection ∷ k.key ∷ []

-- the keys of a table that must be so at the start, in its order
unfoldable pub keys_at_start : Bool → List Settled → List CollectionKey
keys_at_start b [] = []
keys_at_start b (s ∷ t) = if beq s.at_start b then collection_key s ∷ keys_at_start b t else keys_at_start b t

-- never applicable, with the first operation that contradicts; or the keys that must be there at the start, and those that must be absent
pub data Dependencies : Type 0 where
  never_applicable : (patch operation : ℕ) → Dependencies
  needs : (held lacked : List CollectionKey) → Dependencies

unfoldable pub dependencies_by : SettlingWalk → Dependencies
dependencies_by (settles t) = needs (keys_at_start true t) (keys_at_start false t)
dependencies_by (contradicts i j) = never_applicable i j

-- of a patch list, with nothing settled at first
unfoldable pub dependencies : List Patch → Dependencies
dependencies ps = dependencies_by (settle_patches 0 ps [])
