-- A plan resolves: the plan of a projection to the projection, and an operation that is planned to the operation that is applied.
use Rattle.std.specs.Prelude.{ℕ, suc, ◌+◌, ◌≤◌, ◌<◌, ◌≡◌, length, get_or}
use Rattle.std.proofs.Math.Path.{refl, ap, ap₂}
use Rattle.std.proofs.Common.{sym, ◌∙◌, arith, lt-ltb, le-ltb}
use mathlib.Core.List.{List, [], ◌∷◌, map, map-id}
use Rattle.spec_patch.specs.Sizes.{projection_entries}
use Rattle.spec_patch.specs.Patch.{Value, N, quad, Operation, set_binding, set_availability, insert, update, remove, move}
use Rattle.spec_patch.specs.Fits.{OperationHolds}
use Rattle.spec_projection.specs.Projection.{Binding, Entry, Projection}
use Rattle.spec_projection.specs.Apply.{apply_operation}
use Rattle.spec_projection.specs.RowMap.{map_rows}
use Rattle.panel_plan.specs.Resolved.{resolved_binding, resolved_entry, resolving, resolved, resolved_operation, resolved_outcome}
use Rattle.panel_plan.proofs.ResolvedLaws.{operation_resolved}
use Rattle.panel_plan.specs.Plan.{old, new, value_from, resolution, numbered, binding_with, entry_with, plan_of, with_source}

-- ---- sources

pub old_value : (before : List Value) (set : ℕ → Value) (i : ℕ) → i < projection_entries → value_from before set (old i) ≡ get_or before i (quad N)
unfolding value_from old
old_value before set i h = rw (lt-ltb i projection_entries h)

pub new_value : (before : List Value) (set : ℕ → Value) (at : ℕ) → value_from before set (new at) ≡ set at
unfolding value_from new
new_value before set at = rw (le-ltb (projection_entries + at) projection_entries (omega arith)) (ap set (omega arith))

-- ---- the plan of a projection

module _ {A : Type 0} (value : A → Value) where
  -- the elements' values are the numbers' from i on
  abbrev Reads : (ℕ → Value) → ℕ → List A → Type 0
  Reads v i [] = Unit {0}
  Reads v i (x ∷ l) = (v i ≡ value x) × Reads v (suc i) l

  reads_later : (v : ℕ → Value) (i : ℕ) (l : List A) → Reads (λ j. v (suc j)) i l → Reads v (suc i) l
  reads_later v i [] h = tt
  reads_later v i (x ∷ l) h = (h.0, reads_later v (suc i) l h.1)

  reads_own : (d : Value) (l : List A) → Reads (λ i. get_or (map value l) i d) 0 l
  reads_own d [] = tt
  reads_own d (x ∷ l) = (refl, reads_later (λ i. get_or (value x ∷ map value l) i d) 0 l (reads_own d l))

  module _ (put : A → Value → A) (same : (x : A) → put x (value x) ≡ x) (before : List Value) (set : ℕ → Value) where
    numbered_resolves : (resolve : A → A) → ((x : A) (v : Value) → resolve (put x v) ≡ put x (value_from before set v))
        → (i : ℕ) (l : List A) → i + length l ≤ projection_entries → Reads (λ j. get_or before j (quad N)) i l → map resolve (numbered put i l) ≡ l
    unfolding numbered
    numbered_resolves resolve is i [] few h = refl
    numbered_resolves resolve is i (x ∷ l) few h =
        ap₂ ◌∷◌ (is x (old i) ∙ ap (put x) (old_value before set i (omega arith) ∙ h.0) ∙ same x) (numbered_resolves resolve is (suc i) l (omega arith) h.1)

-- resolving the plan of a projection gives it back
pub plan_resolves : (p : Projection) (set : ℕ → Value) → length p.bindings ≤ projection_entries → length p.entries ≤ projection_entries → resolved (resolution p set) (plan_of p) ≡ p
unfolding map_rows resolving plan_of resolution resolved_binding resolved_entry binding_with entry_with
plan_resolves p set few_bindings few_entries =
    let bindings = numbered_resolves (λ (b : Binding). b.value) binding_with (λ b. refl) _ set (resolved_binding (resolution p set)) (λ b v. refl) 0 p.bindings (omega arith) (reads_own (λ (b : Binding). b.value) (quad N) p.bindings) in
    let entries = numbered_resolves (λ (e : Entry). e.value) entry_with (λ e. refl) _ set (resolved_entry (resolution p set)) (λ e v. refl) 0 p.entries (omega arith) (reads_own (λ (e : Entry). e.value) (quad N) p.entries) in
    λ i. record { bindings = bindings i; availabilities = map-id p.availabilities i; entries = entries i }

-- ---- planned operations

-- an operation whose value the set has at a position
module _ (p : Projection) (set : ℕ → Value) (at : ℕ) (P : Value → Type 0) (there : (v : Value) → P v → set at ≡ v) where
  -- planned with the position, and resolved, it is the operation
  operation_back : (o : Operation) → OperationHolds P o → resolved_operation (resolution p set) (with_source (new at) o) ≡ o
  unfolding OperationHolds resolved_operation with_source resolution
  operation_back (set_binding n s v) h = ap (set_binding n s) (new_value _ set at ∙ there v h.1.1)
  operation_back (set_availability n a) h = refl
  operation_back (insert c k before v) h = ap (insert c k before) (new_value _ set at ∙ there v h.1.1.1)
  operation_back (update c k v) h = ap (update c k) (new_value _ set at ∙ there v h.1.1)
  operation_back (remove c k) h = refl
  operation_back (move c k before) h = refl

  -- planning it and resolving is applying it, whatever the plan
  pub planned_operation_lem : (plan : Projection) (id : ℕ) (o : Operation) → OperationHolds P o
      → apply_operation (resolved (resolution p set) plan) id o ≡ resolved_outcome (resolution p set) (apply_operation plan id (with_source (new at) o))
  planned_operation_lem plan id o h =
      ap (apply_operation (resolved (resolution p set) plan) id) (sym (operation_back o h)) ∙ operation_resolved (resolution p set) plan id (with_source (new at) o)
