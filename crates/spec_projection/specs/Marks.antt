-- Marks: 02, Job 11. A projection without them, and the patch that last gave a row its value.
use Rattle.std.specs.Prelude.{ℕ, Bool, false, ◌&&◌, List, [], ◌∷◌, map, eqb, if◌then◌else◌}
use Rattle.std.proofs.Math.Option.{Option, none, some, or_else}
use Rattle.spec_patch.specs.Patch.{Operation, set_binding, set_availability, insert, update, remove, move}
use Rattle.spec_projection.specs.Projection.{Projection}
use Rattle.spec_projection.specs.Lookups.{binding_mark, availability_mark, entry_mark}
use Rattle.spec_projection.specs.Apply.{Outcome, ReplayStep, step_of, step_operations}
use Rattle.spec_projection.specs.RowMap.{RowMap, map_rows, map_outcome}

-- ---- without marks

-- every mark 0, all else as it is
unfoldable pub unmarked : RowMap
unmarked = record {
  binding = λ b. record { node = b.node; slot = b.slot; mark = 0; value = b.value };
  availability = λ a. record { node = a.node; mark = 0; availability = a.availability };
  entry = λ e. record { collection = e.collection; key = e.key; mark = 0; value = e.value };
}

-- a projection as it is listed, and compared where marks do not count
unfoldable pub without_marks : Projection → Projection
without_marks p = map_rows unmarked p

abbrev pub outcome_without_marks : Outcome → Outcome
outcome_without_marks x = map_outcome unmarked x

-- the same operations, all of patch 0
unfoldable pub without_patches : List ReplayStep → List ReplayStep
without_patches ss = map (step_of 0) (step_operations ss)

-- ---- whose mark

-- what can be stored: one binding, one node's availability, one key of a collection
pub data RowId : Type 0 where
  binding_id : (node slot : ℕ) → RowId
  availability_id : (node : ℕ) → RowId
  entry_id : (collection key : ℕ) → RowId

-- the mark of a row, if it is stored
unfoldable pub row_mark : Projection → RowId → Option ℕ
row_mark p (binding_id node slot) = binding_mark p node slot
row_mark p (availability_id node) = availability_mark p node
row_mark p (entry_id c k) = entry_mark p c k

unfoldable pub same_row : RowId → RowId → Bool
same_row (binding_id n s) (binding_id m t) = eqb n m && eqb s t
same_row (binding_id n s) (availability_id m) = false
same_row (binding_id n s) (entry_id d j) = false
same_row (availability_id n) (binding_id m t) = false
same_row (availability_id n) (availability_id m) = eqb n m
same_row (availability_id n) (entry_id d j) = false
same_row (entry_id c k) (binding_id m t) = false
same_row (entry_id c k) (availability_id m) = false
same_row (entry_id c k) (entry_id d j) = eqb c d && eqb k j

-- whether an operation gives the row a value: a set, an insert and an update do, a removal and a move do not
unfoldable pub gives_value : Operation → RowId → Bool
gives_value (set_binding n s v) r = same_row (binding_id n s) r
gives_value (set_availability n a) r = same_row (availability_id n) r
gives_value (insert c k before v) r = same_row (entry_id c k) r
gives_value (update c k v) r = same_row (entry_id c k) r
gives_value (remove c k) r = false
gives_value (move c k before) r = false

-- the patch of the last step that gave the row a value: later steps are asked first
unfoldable pub last_setter : RowId → List ReplayStep → Option ℕ
last_setter r [] = none
last_setter r (s ∷ ss) = or_else (last_setter r ss) (if gives_value s.operation r then some s.patch else none)
