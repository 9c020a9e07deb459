-- Sources as numbers, the plan that a batch starts from, and planned operations: a source is a row of the table before the batch, or a
-- position in the bytes of the set.
use Rattle.std.specs.Prelude.{ℕ, suc, ◌+◌, ◌-◌, List, [], ◌∷◌, map, ltb, get_or, if◌then◌else◌}
use Rattle.spec_patch.specs.Sizes.{projection_entries}
use Rattle.spec_patch.specs.Patch.{Value, N, quad, signed, text, unsigned, score, Operation, set_binding, set_availability, insert, update, remove, move}
use Rattle.spec_projection.specs.Projection.{Binding, Entry, Projection}
use Rattle.panel_plan.specs.Resolved.{Resolution}

-- ---- sources

-- the value of row i of the table before the batch
unfoldable pub old : ℕ → Value
old i = unsigned i

-- the value whose bytes begin at a position in the set: numbers that no row has
unfoldable pub new : ℕ → Value
new at = unsigned (projection_entries + at)

-- the value that a source stands for, with the values of the table before the batch and those of the set by position
unfoldable pub value_from : List Value → (ℕ → Value) → Value → Value
value_from before set (unsigned n) = if ltb n projection_entries then get_or before n (quad N) else set (n - projection_entries)
value_from before set (quad q) = quad q
value_from before set (signed z) = signed z
value_from before set (text t) = text t
value_from before set (score n) = score n

-- sources of a batch on p
unfoldable pub resolution : Projection → (ℕ → Value) → Resolution
resolution p set = record {
  in_binding = value_from (map (λ (b : Binding). b.value) p.bindings) set;
  in_entry = value_from (map (λ (e : Entry). e.value) p.entries) set;
}

-- ---- the plan of a projection: every row is where it was, with its mark

-- each element with its number for a value, from i on
unfoldable pub numbered : {A : Type 0} → (A → Value → A) → ℕ → List A → List A
numbered put i [] = []
numbered put i (x ∷ xs) = put x (old i) ∷ numbered put (suc i) xs

unfoldable pub binding_with : Binding → Value → Binding
binding_with b v = record { node = b.node; slot = b.slot; mark = b.mark; value = v }

unfoldable pub entry_with : Entry → Value → Entry
entry_with e v = record { collection = e.collection; key = e.key; mark = e.mark; value = v }

unfoldable pub plan_of : Projection → Projection
plan_of p = record { bindings = numbered binding_with 0 p.bindings; availabilities = p.availabilities; entries = numbered entry_with 0 p.entries }

-- ---- planned operations

-- the operation with a source for its value, if it has one
unfoldable pub with_source : Value → Operation → Operation
with_source source (set_binding n s v) = set_binding n s source
with_source source (set_availability n a) = set_availability n a
with_source source (insert c k before v) = insert c k before source
with_source source (update c k v) = update c k source
with_source source (remove c k) = remove c k
with_source source (move c k before) = move c k before
