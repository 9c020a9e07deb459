-- Lookups answer the value or none, its mark beside it, and a collection's entries in their order: 01, 'Projection', and 02, Job 11.
use Rattle.std.specs.Prelude.{ℕ, List, [], ◌∷◌, eqb, length, if◌then◌else◌}
use Rattle.std.proofs.Math.Option.{Option, map}
use Rattle.std.proofs.Math.ListN.{get_elem?}
use Rattle.spec_lists.specs.Order.{lookup}
use Rattle.spec_patch.specs.Patch.{Value, Availability}
use Rattle.spec_projection.specs.Projection.{Binding, NodeAvailability, Entry, Projection, binding_key, availability_key}
use Rattle.spec_projection.specs.FirstMatch.{find_first}
use Rattle.spec_projection.specs.Entries.{is_entry}

-- a binding's value
unfoldable pub binding_of : Projection → ℕ → ℕ → Option Value
binding_of p node slot = map (λ (b : Binding). b.value) (lookup binding_key (node ∷ slot ∷ []) p.bindings)

-- its mark
unfoldable pub binding_mark : Projection → ℕ → ℕ → Option ℕ
binding_mark p node slot = map (λ (b : Binding). b.mark) (lookup binding_key (node ∷ slot ∷ []) p.bindings)

-- a node's availability
unfoldable pub availability_of : Projection → ℕ → Option Availability
availability_of p node = map (λ (a : NodeAvailability). a.availability) (lookup availability_key (node ∷ []) p.availabilities)

-- its mark
unfoldable pub availability_mark : Projection → ℕ → Option ℕ
availability_mark p node = map (λ (a : NodeAvailability). a.mark) (lookup availability_key (node ∷ []) p.availabilities)

-- the value of a collection's key
unfoldable pub entry_of : Projection → ℕ → ℕ → Option Value
entry_of p c k = map (λ (e : Entry). e.value) (find_first (is_entry c k) p.entries)

-- its mark
unfoldable pub entry_mark : Projection → ℕ → ℕ → Option ℕ
entry_mark p c k = map (λ (e : Entry). e.mark) (find_first (is_entry c k) p.entries)

-- an entry as its collection lists it
pub record KeyedValue : Type 0 where
  pub key : ℕ
  pub mark : ℕ
  pub value : Value

abbrev pub keyed_value : Entry → KeyedValue
keyed_value e = record { key = e.key; mark = e.mark; value = e.value }

-- the entries of one collection among those of all, in their order
unfoldable pub entries_in : ℕ → List Entry → List KeyedValue
entries_in c [] = []
entries_in c (e ∷ es) = if eqb e.collection c then keyed_value e ∷ entries_in c es else entries_in c es

-- per collection a list of (key, value)
unfoldable pub entries_of : Projection → ℕ → List KeyedValue
entries_of p c = entries_in c p.entries

-- the entry at a position of its collection, from 0, or none
unfoldable pub entry_at : Projection → ℕ → ℕ → Option KeyedValue
entry_at p c i = get_elem? (entries_of p c) i

-- how many entries a collection has
unfoldable pub entry_count : Projection → ℕ → ℕ
entry_count p c = length (entries_of p c)
