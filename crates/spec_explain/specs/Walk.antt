-- The first operation of a patch list at which a walk over them ends: one walk for the targets and for applying.
use Rattle.std.specs.Prelude.{ℕ, suc, ◌≡◌, Bool, true, false, List, [], ◌∷◌, ◌++◌, map, length, if◌then◌else◌}
use Rattle.std.proofs.Math.Option.{Option, none, some}
use Rattle.spec_lists.specs.Lists.{all}
use Rattle.spec_patch.specs.Patch.{Operation, Patch}
use Rattle.spec_projection.specs.Apply.{ReplayStep, step_of, replay_steps, operations_of}

-- an operation by patch and place in it, both from 0, with what the operations before it left
pub record Halt (S : Type 0) : Type 0 where
  pub patch : ℕ
  pub operation : ℕ
  pub left : S
  pub refused : Operation

-- what the operations left, or the first at which the walk ends
pub data Walk (S : Type 0) : Type 0 where
  through : S → Walk S
  halted : Halt S → Walk S

module _ {S : Type 0} where
  -- goes on with what is left
  abbrev pub walk_on : Walk S → (S → Walk S) → Walk S
  walk_on (through s) f = f s
  walk_on (halted h) f = halted h

  -- one operation, by what it makes of what stands
  abbrev pub walk_step : ℕ → ℕ → S → Operation → Option S → Walk S
  walk_step i j s o none = halted (record { patch = i; operation = j; left = s; refused = o })
  walk_step i j s o (some t) = through t

  -- goes on where there is something
  abbrev pub if_some : Option S → (S → Option S) → Option S
  if_some none f = none
  if_some (some s) f = f s

-- `step` says what an operation of the patch of that id makes of what stands, or none where the walk ends at it
module _ {S : Type 0} (step : S → ℕ → Operation → Option S) where
  -- the operations of patch i, from place j on
  unfoldable pub walk_operations : ℕ → (id : ℕ) → ℕ → S → List Operation → Walk S
  walk_operations i id j s [] = through s
  walk_operations i id j s (o ∷ os) = walk_on (walk_step i j s o (step s id o)) (λ t. walk_operations i id (suc j) t os)

  -- the patches from i on; each counts its operations from 0
  unfoldable pub walk_patches : ℕ → S → List Patch → Walk S
  walk_patches i s [] = through s
  walk_patches i s (p ∷ ps) = walk_on (walk_operations i p.envelope.id 0 s p.operations) (λ t. walk_patches (suc i) t ps)

-- an operation that passes a test lets the walk go on; nothing is left by it
unfoldable pub tested : (Operation → Bool) → Unit {0} → ℕ → Operation → Option (Unit {0})
tested test u id o = if test o then some tt else none

-- ---- what is claimed of it

-- the operation stands at place j of patch i
pub record At (ps : List Patch) (i j : ℕ) (operation : Operation) : Type 0 where
  pub earlier : List Patch
  pub patch : Patch
  pub later : List Patch
  pub patches : ps ≡ earlier ++ (patch ∷ later)
  pub patch_index : length earlier ≡ i
  pub before : List Operation
  pub behind : List Operation
  pub operations : patch.operations ≡ before ++ (operation ∷ behind)
  pub operation_index : length before ≡ j

module _ {ps : List Patch} {i j : ℕ} {o : Operation} where
  -- the id of its patch
  abbrev pub patch_id : At ps i j o → ℕ
  patch_id a = a.patch.envelope.id

  -- the operations before it, as steps and as operations
  abbrev pub steps_before : At ps i j o → List ReplayStep
  steps_before a = replay_steps a.earlier ++ map (step_of (patch_id a)) a.before

  abbrev pub operations_before : At ps i j o → List Operation
  operations_before a = operations_of a.earlier ++ a.before

module _ {S : Type 0} (step : S → ℕ → Operation → Option S) where
  -- the steps of a list, one after the other; none where one ends it
  unfoldable pub run_steps : S → List ReplayStep → Option S
  run_steps s [] = some s
  run_steps s (r ∷ rs) = if_some (step s r.patch r.operation) (λ t. run_steps t rs)

  -- the operations before the named one go through, and it does not
  pub record First (s : S) (ps : List Patch) (h : Halt S) : Type 0 where
    pub there : At ps h.patch h.operation h.refused
    pub ran : run_steps s (steps_before there) ≡ some h.left
    pub ends : step h.left (patch_id there) h.refused ≡ none

-- the first operation that does not pass a test
pub record FirstLacking (test : Operation → Bool) (ps : List Patch) (i j : ℕ) : Type 0 where
  pub operation : Operation
  pub there : At ps i j operation
  pub passed : all test (operations_before there) ≡ true
  pub lacks : test operation ≡ false
