-- Examples of 01, 'Projection', and others that tell the rules apart, as one table that the checker computes.
use Rattle.std.specs.Prelude.{ℕ, zero, suc, ◌≡◌, refl, Bool, true, false, eqb}
use mathlib.Core.List.{List, [], ◌∷◌, ◌++◌, map, flat_map}
use Rattle.std.proofs.Math.Option
use Rattle.std.proofs.Math.Option.{Option, none, some}
use Rattle.spec_lists.specs.Lists.{equal_lists}
use Rattle.spec_lists.specs.Order.{lex_less, upsert, lookup}
use Rattle.spec_patch.specs.Patch.{Value, quad, signed, text, unsigned, score, Availability, pending, hidden, Operation, set_binding, set_availability, insert, update, remove, move, Patch}
use Rattle.spec_patch.specs.Encode.{availability_byte}
use Rattle.spec_projection.specs.Projection.{Binding, Entry, Projection, empty, binding_key, availability_key}
use Rattle.spec_projection.specs.FirstMatch.{find_first, insert_before_first, replace_first, remove_first}
use Rattle.spec_projection.specs.Entries.{is_entry, is_later, contains, contains_neighbour, insert_last, insert_before, insert_entry, replace_entry, remove_entry}
use Rattle.spec_projection.specs.Lookups.{KeyedValue, binding_of, availability_of, entry_of, entries_in, entries_of, entry_at, entry_count}
use Rattle.spec_projection.specs.Apply.{Outcome, done, stopped, ReplayStep, operation_fault_number, with_bindings, with_availabilities, with_entries, apply_binding, apply_availability, apply_insert, apply_update, apply_remove, apply_move, apply_operation, patch_steps, replay_steps, operations_of, apply_step, apply_steps}

-- ---- what the examples are made of

patch : ℕ → List Operation → Patch
patch id os = record { envelope = record { id = id; stream = 1; document = 1; surface = none; previous = 1; revision = 2; epoch = 1; sequence = 1 }; operations = os }

-- n numbers from i on
numbers : ℕ → ℕ → List ℕ
numbers i zero = []
numbers i (suc n) = i ∷ numbers (suc i) n

-- a collection's entries of the keys 1 to n, each with its key as value
keyed : ℕ → ℕ → List Entry
keyed c n = map (λ (k : ℕ). record { collection = c; key = k; mark = 0; value = unsigned k }) (numbers 1 n)

-- a projection with these entries, n bindings of node 5 and n availabilities
stored : ℕ → List Entry → Projection
stored n es =
    record {
      bindings = map (λ (s : ℕ). record { node = 5; slot = s; mark = 0; value = unsigned 0 }) (numbers 0 n);
      availabilities = map (λ (i : ℕ). record { node = i; mark = 0; availability = pending }) (numbers 0 n);
      entries = es;
    }

-- collection 9 with the keys 1, 2, 3
three : Projection
three = stored 0 (keyed 9 3)

-- collection 9 with 128 entries
full : Projection
full = stored 0 (keyed 9 128)

-- 0, or the number of the fault
fault_or_zero : Outcome → ℕ
fault_or_zero (done p) = 0
fault_or_zero (stopped fault) = operation_fault_number fault

-- what is asked of the projection afterwards; nothing where a step failed
ask : (Projection → List ℕ) → Outcome → List ℕ
ask f (done p) = f p
ask f (stopped fault) = []

-- the operations of one patch, from this projection on, give this number
gives : ℕ → Projection → List Operation → Bool
gives n p os = eqb (fault_or_zero (apply_steps p (replay_steps (patch 1 os ∷ [])))) n

-- and leave a projection that answers this
shows : List ℕ → (Projection → List ℕ) → Projection → List Operation → Bool
shows expected f p os = equal_lists eqb (ask f (apply_steps p (replay_steps (patch 1 os ∷ [])))) expected

-- ---- questions

keys : ℕ → Projection → List ℕ
keys c p = map (λ (e : KeyedValue). e.key) (entries_of p c)

plain : Value → List ℕ
plain (quad q) = []
plain (signed z) = []
plain (text t) = []
plain (unsigned x) = x ∷ []
plain (score n) = n ∷ []

value_asked : Option Value → List ℕ
value_asked none = []
value_asked (some v) = plain v

availability_asked : Option Availability → List ℕ
availability_asked none = []
availability_asked (some a) = availability_byte a ∷ []

-- ---- the table

-- what stands where in a collection
places : List Bool
places =
    -- [1, 2, 3], move 1 before 3: [2, 1, 3]; move 1 last: [2, 3, 1]
    shows (2 ∷ 1 ∷ 3 ∷ []) (keys 9) three (move 9 1 (some 3) ∷ [])
    ∷ shows (2 ∷ 3 ∷ 1 ∷ []) (keys 9) three (move 9 1 none ∷ [])
    -- a move keeps the value; before itself it finds no neighbour
    ∷ shows (1 ∷ []) (λ p. value_asked (entry_of p 9 1)) three (move 9 1 none ∷ [])
    ∷ gives 8 three (move 9 1 (some 1) ∷ [])
    -- an update leaves the entry in its place
    ∷ shows (1 ∷ 2 ∷ 3 ∷ []) (keys 9) three (update 9 1 (unsigned 40) ∷ [])
    ∷ shows (40 ∷ []) (λ p. value_asked (entry_of p 9 1)) three (update 9 1 (unsigned 40) ∷ [])
    -- an insert goes before its neighbour, or last
    ∷ shows (1 ∷ 4 ∷ 2 ∷ 3 ∷ []) (keys 9) three (insert 9 4 (some 2) (unsigned 0) ∷ [])
    ∷ shows (1 ∷ 2 ∷ 3 ∷ 4 ∷ []) (keys 9) three (insert 9 4 none (unsigned 0) ∷ [])
    -- a removal takes one key out
    ∷ shows (1 ∷ 3 ∷ []) (keys 9) three (remove 9 2 ∷ [])
    ∷ []

-- 8: the key and neighbour rules
key_rules : List Bool
key_rules =
    -- a present key, an absent neighbour, an absent key
    gives 8 three (insert 9 1 none (unsigned 0) ∷ [])
    ∷ gives 8 three (insert 9 4 (some 5) (unsigned 0) ∷ [])
    ∷ gives 8 three (update 9 4 (unsigned 0) ∷ [])
    ∷ gives 8 three (remove 9 4 ∷ [])
    ∷ gives 8 three (move 9 4 none ∷ [])
    -- another collection has its own keys and neighbours
    ∷ gives 0 three (insert 8 1 none (unsigned 0) ∷ [])
    ∷ gives 8 three (insert 8 1 (some 2) (unsigned 0) ∷ [])
    ∷ gives 8 three (remove 8 1 ∷ [])
    ∷ []

-- 9: 128 entries of all collections, 64 bindings, 64 availabilities
capacities : List Bool
capacities =
    -- entry 128 fits; 129 gives 9, over all collections; on a full projection an absent neighbour is still 8
    gives 0 (stored 0 (keyed 9 127)) (insert 9 500 none (unsigned 0) ∷ [])
    ∷ gives 9 full (insert 9 500 none (unsigned 0) ∷ [])
    ∷ gives 9 (stored 0 (keyed 8 64 ++ keyed 9 64)) (insert 9 500 (some 1) (unsigned 0) ∷ [])
    ∷ gives 8 full (insert 9 500 (some 600) (unsigned 0) ∷ [])
    -- a removal frees a place, and a move needs none
    ∷ gives 0 full (remove 9 3 ∷ insert 8 3 none (unsigned 0) ∷ [])
    ∷ gives 0 full (move 9 3 none ∷ [])
    -- binding 64 fits, and can be replaced; the 65th gives 9; and so for availabilities
    ∷ gives 0 (stored 63 []) (set_binding 6 0 (unsigned 2) ∷ set_binding 5 3 (unsigned 2) ∷ [])
    ∷ gives 9 (stored 64 []) (set_binding 6 0 (unsigned 2) ∷ [])
    ∷ gives 0 (stored 63 []) (set_availability 500 hidden ∷ set_availability 3 hidden ∷ [])
    ∷ gives 9 (stored 64 []) (set_availability 500 hidden ∷ [])
    ∷ []

-- collections ascending, entries in list order; bindings by (node, slot)
stored_order : List Bool
stored_order =
    shows (8 ∷ 9 ∷ 9 ∷ 9 ∷ []) (λ p. map (λ (e : Entry). e.collection) p.entries) three (insert 8 1 none (unsigned 0) ∷ [])
    ∷ shows (9 ∷ 9 ∷ 9 ∷ 10 ∷ []) (λ p. map (λ (e : Entry). e.collection) p.entries) three (insert 10 1 none (unsigned 0) ∷ [])
    ∷ shows (7 ∷ 0 ∷ 3 ∷ []) (λ p. map (λ (b : Binding). b.slot) p.bindings) empty (set_binding 2 3 (unsigned 0) ∷ set_binding 1 7 (unsigned 0) ∷ set_binding 2 0 (unsigned 0) ∷ [])
    ∷ []

-- lookups answer the last value set, or none; an emptied collection has no entries
lookups : List Bool
lookups =
    shows (2 ∷ []) (λ p. value_asked (binding_of p 5 0)) empty (set_binding 5 0 (unsigned 1) ∷ set_binding 5 0 (unsigned 2) ∷ [])
    ∷ shows [] (λ p. value_asked (binding_of p 5 1)) empty (set_binding 5 0 (unsigned 1) ∷ [])
    ∷ shows (2 ∷ []) (λ p. availability_asked (availability_of p 5)) empty (set_availability 5 pending ∷ set_availability 5 hidden ∷ [])
    ∷ shows [] (λ p. availability_asked (availability_of p 6)) empty (set_availability 5 pending ∷ [])
    ∷ shows (3 ∷ []) (λ p. value_asked (Option.map (λ (e : KeyedValue). e.value) (entry_at p 9 2))) three []
    ∷ shows (3 ∷ []) (λ p. entry_count p 9 ∷ []) three []
    ∷ shows (0 ∷ []) (λ p. entry_count p 9 ∷ []) three (remove 9 1 ∷ remove 9 2 ∷ remove 9 3 ∷ [])
    ∷ []

-- steps in order
steps : List Bool
steps =
    -- the first step that fails decides
    gives 8 full (remove 9 500 ∷ insert 9 500 none (unsigned 0) ∷ [])
    ∷ gives 9 full (insert 9 500 none (unsigned 0) ∷ remove 9 501 ∷ [])
    -- each step has its patch's id
    ∷ equal_lists eqb (map (λ (s : ReplayStep). s.patch) (replay_steps (patch 7 (remove 9 1 ∷ remove 9 2 ∷ []) ∷ patch 8 (remove 9 1 ∷ []) ∷ []))) (7 ∷ 7 ∷ 8 ∷ [])
    ∷ []

pub apply_examples : List Bool
apply_examples = places ++ key_rules ++ capacities ++ stored_order ++ lookups ++ steps

-- the places of the rows that fail, from 0
unfoldable pub failing : ℕ → List Bool → List ℕ
failing i [] = []
failing i (true ∷ rows) = failing (suc i) rows
failing i (false ∷ rows) = i ∷ failing (suc i) rows

-- no row fails
pub projection_examples : failing 0 apply_examples ≡ []
unfolding apply_examples places key_rules capacities stored_order lookups steps failing patch numbers keyed stored three full fault_or_zero ask gives shows keys plain value_asked availability_asked availability_byte
    flat_map lex_less upsert lookup
    empty binding_key availability_key find_first insert_before_first replace_first remove_first
    is_entry is_later contains contains_neighbour insert_last insert_before insert_entry replace_entry remove_entry
    binding_of availability_of entry_of entries_in entries_of entry_at entry_count
    operation_fault_number with_bindings with_availabilities with_entries apply_binding apply_availability apply_insert apply_update apply_remove apply_move apply_operation
    patch_steps replay_steps operations_of apply_step apply_steps
projection_examples = refl
