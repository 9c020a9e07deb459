-- A plan by example, as one table that the checker computes: collection 9 has the keys 1, 2, 3, with the values 11, 12, 13 and the marks 21,
-- 22, 23; node 5 has one binding.
use Rattle.std.specs.Prelude.{ℕ, zero, suc, ◌+◌, ◌≡◌, refl, Bool, List, [], ◌∷◌, map, eqb}
use Rattle.std.proofs.Math.Option.{none, some}
use Rattle.spec_lists.specs.Lists.{equal_lists}
use Rattle.spec_lists.specs.Order.{lex_less, upsert}
use Rattle.spec_patch.specs.Patch.{Value, quad, signed, text, unsigned, score, Operation, set_binding, insert, update, remove, move}
use Rattle.spec_projection.specs.Projection.{Binding, Entry, Projection, binding_key, availability_key}
use Rattle.spec_projection.specs.FirstMatch.{find_first, insert_before_first, replace_first, remove_first}
use Rattle.spec_projection.specs.Entries.{is_entry, is_later, contains, contains_neighbour, insert_last, insert_before, insert_entry, replace_entry, remove_entry}
use Rattle.spec_projection.specs.Apply.{Outcome, done, stopped, ReplayStep, step_of, operation_fault_number, with_bindings, with_availabilities, with_entries, apply_binding, apply_availability, apply_insert, apply_update, apply_remove, apply_move, apply_operation, apply_step, apply_steps}
use Rattle.spec_projection.proofs.ApplyExamples.{failing}
use Rattle.spec_projection.specs.RowMap.{map_rows}
use Rattle.panel_plan.specs.Resolved.{resolved_binding, resolved_entry, resolving, resolved_outcome}
use Rattle.panel_plan.specs.Plan.{old, new, value_from, resolution, numbered, binding_with, entry_with, plan_of, with_source}

-- ---- what the examples are made of

keyed : ℕ → Entry
keyed k = record { collection = 9; key = k; mark = 20 + k; value = unsigned (10 + k) }

before : Projection
before = record { bindings = record { node = 5; slot = 0; mark = 80; value = unsigned 70 } ∷ []; availabilities = []; entries = keyed 1 ∷ keyed 2 ∷ keyed 3 ∷ [] }

-- a full projection: the keys 1 to 128
numbers : ℕ → ℕ → List ℕ
numbers i zero = []
numbers i (suc n) = i ∷ numbers (suc i) n

full : Projection
full = record { bindings = []; availabilities = []; entries = map keyed (numbers 1 128) }

-- the value at a position of the set: 1000 more than the position
set : ℕ → Value
set at = unsigned (1000 + at)

-- an operation whose value is the one at the position, planned
at : ℕ → (Value → Operation) → ReplayStep
at n o = step_of 1 (with_source (new n) (o (set n)))

-- one without a value
plain : Operation → ReplayStep
plain o = step_of 1 (with_source (new 0) o)

-- ---- questions

value_number : Value → ℕ
value_number (quad q) = 0
value_number (signed z) = 0
value_number (text t) = 0
value_number (unsigned x) = x
value_number (score n) = 0

ask : (Projection → List ℕ) → Outcome → List ℕ
ask f (done p) = f p
ask f (stopped fault) = operation_fault_number fault ∷ []

keys : Projection → List ℕ
keys p = map (λ (e : Entry). e.key) p.entries

values : Projection → List ℕ
values p = map (λ (e : Entry). value_number e.value) p.entries

marks : Projection → List ℕ
marks p = map (λ (e : Entry). e.mark) p.entries

bindings : Projection → List ℕ
bindings p = map (λ (b : Binding). value_number b.value) p.bindings

-- what the plan answers after these steps, as sources
plans : List ℕ → (Projection → List ℕ) → Projection → List ReplayStep → Bool
plans expected f p ss = equal_lists eqb (ask f (apply_steps (plan_of p) ss)) expected

-- and once they are resolved
resolves : List ℕ → (Projection → List ℕ) → Projection → List ReplayStep → Bool
resolves expected f p ss = equal_lists eqb (ask f (resolved_outcome (resolution p set) (apply_steps (plan_of p) ss))) expected

-- ---- the table

pub plan_examples : List Bool
plan_examples =
    -- the plan at first: rows 0, 1, 2, and row 0 of the bindings
    plans (0 ∷ 1 ∷ 2 ∷ []) values before []
    ∷ plans (0 ∷ []) bindings before []
    ∷ resolves (11 ∷ 12 ∷ 13 ∷ []) values before []
    -- a moved entry takes its source along
    ∷ plans (2 ∷ 3 ∷ 1 ∷ []) keys before (plain (move 9 1 none) ∷ [])
    ∷ plans (1 ∷ 2 ∷ 0 ∷ []) values before (plain (move 9 1 none) ∷ [])
    -- an update changes the source alone; an insert has its position
    ∷ plans (0 ∷ 178 ∷ 2 ∷ []) values before (at 50 (update 9 2) ∷ [])
    ∷ plans (0 ∷ 188 ∷ 1 ∷ 2 ∷ []) values before (at 60 (insert 9 4 (some 2)) ∷ [])
    -- an entry that was updated, then moved
    ∷ resolves (12 ∷ 13 ∷ 1050 ∷ []) values before (at 50 (update 9 1) ∷ plain (move 9 1 none) ∷ [])
    -- a neighbour that the batch inserted, and one that it removed
    ∷ resolves (11 ∷ 12 ∷ 13 ∷ 1061 ∷ 1060 ∷ []) values before (at 60 (insert 9 4 none) ∷ at 61 (insert 9 5 (some 4)) ∷ [])
    ∷ resolves (8 ∷ []) values before (plain (remove 9 2) ∷ at 60 (insert 9 4 (some 2)) ∷ [])
    -- a plan keeps marks, a move takes its own along, and an update has its patch's
    ∷ plans (22 ∷ 23 ∷ 21 ∷ []) marks before (plain (move 9 1 none) ∷ [])
    ∷ resolves (21 ∷ 1 ∷ 23 ∷ []) marks before (at 50 (update 9 2) ∷ [])
    -- bindings have their own rows
    ∷ resolves (70 ∷ 1040 ∷ []) bindings before (at 40 (set_binding 5 1) ∷ [])
    ∷ resolves (1040 ∷ []) bindings before (at 40 (set_binding 5 0) ∷ [])
    -- 8 and 9
    ∷ plans (8 ∷ []) keys before (at 60 (insert 9 1 none) ∷ [])
    ∷ plans (8 ∷ []) keys before (plain (move 9 1 (some 1)) ∷ [])
    ∷ plans (9 ∷ []) keys full (at 60 (insert 9 500 none) ∷ [])
    ∷ []

-- no row fails
pub plan_examples_lem : failing 0 plan_examples ≡ []
unfolding plan_examples failing keyed before numbers full set at plain value_number ask keys values marks bindings plans resolves
    lex_less upsert binding_key availability_key find_first insert_before_first replace_first remove_first
    is_entry is_later contains contains_neighbour insert_last insert_before insert_entry replace_entry remove_entry
    operation_fault_number with_bindings with_availabilities with_entries apply_binding apply_availability apply_insert apply_update apply_remove apply_move apply_operation apply_step apply_steps
    map_rows resolved_binding resolved_entry resolving old new value_from resolution numbered binding_with entry_with plan_of with_source
plan_examples_lem = refl
