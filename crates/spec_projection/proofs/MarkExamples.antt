-- Whose mark a row has after some runs, as one table that the checker computes: 02, Job 11.
use Rattle.std.specs.Prelude.{ℕ, ◌≡◌, refl, List, [], ◌∷◌}
use Rattle.std.proofs.Math.Option.{Option, none, some, or_else}
use Rattle.spec_lists.specs.Lists.{All}
use Rattle.spec_lists.specs.Order.{lex_less, upsert, lookup}
use Rattle.spec_patch.specs.Patch.{unsigned, pending, hidden, set_binding, set_availability, insert, update, remove, move}
use Rattle.spec_projection.specs.Projection.{Entry, Projection, empty, binding_key, availability_key}
use Rattle.spec_projection.specs.FirstMatch.{find_first, insert_before_first, replace_first, remove_first}
use Rattle.spec_projection.specs.Entries.{is_entry, is_later, contains, contains_neighbour, insert_last, insert_before, insert_entry, replace_entry, remove_entry}
use Rattle.spec_projection.specs.Lookups.{binding_mark, availability_mark, entry_mark}
use Rattle.spec_projection.specs.Apply.{Outcome, done, stopped, ReplayStep, step_of, with_bindings, with_availabilities, with_entries, apply_binding, apply_availability, apply_insert, apply_update, apply_remove, apply_move, apply_operation, apply_step, apply_steps}
use Rattle.spec_projection.specs.Marks.{RowId, binding_id, availability_id, entry_id, row_mark, same_row, gives_value, last_setter}

abbrev pub marked_entry : ℕ → ℕ → Entry
marked_entry k id = record { collection = 9; key = k; mark = id; value = unsigned 0 }

-- one binding, one availability, and collection 9 with the keys 1 and 2, all of patch 3
abbrev pub started : Projection
started = record {
  bindings = record { node = 5; slot = 0; mark = 3; value = unsigned 0 } ∷ [];
  availabilities = record { node = 5; mark = 3; availability = pending } ∷ [];
  entries = marked_entry 1 3 ∷ marked_entry 2 3 ∷ [];
}

-- a run, and a row of which is said who gave it its value in the run and which mark it has afterwards
pub record MarkedRun : Type 0 where
  pub steps : List ReplayStep
  pub row : RowId
  pub setter : Option ℕ
  pub mark : Option ℕ

abbrev pub marked_runs : List MarkedRun
marked_runs =
    -- the value that is there, set anew
    record { steps = step_of 7 (set_binding 5 0 (unsigned 4)) ∷ step_of 8 (set_binding 5 0 (unsigned 4)) ∷ []; row = binding_id 5 0; setter = some 8; mark = some 8 }
    -- a node's availability, and then a binding of that node
    ∷ record { steps = step_of 7 (set_availability 5 hidden) ∷ step_of 8 (set_binding 5 0 (unsigned 4)) ∷ []; row = availability_id 5; setter = some 7; mark = some 7 }
    -- an update counts, a move does not
    ∷ record { steps = step_of 7 (update 9 1 (unsigned 4)) ∷ step_of 8 (move 9 1 none) ∷ []; row = entry_id 9 1; setter = some 7; mark = some 7 }
    ∷ record { steps = step_of 7 (update 9 1 (unsigned 4)) ∷ step_of 8 (move 9 2 (some 1)) ∷ []; row = entry_id 9 2; setter = none; mark = some 3 }
    -- removed, and inserted again
    ∷ record { steps = step_of 7 (remove 9 1) ∷ step_of 8 (insert 9 1 none (unsigned 0)) ∷ []; row = entry_id 9 1; setter = some 8; mark = some 8 }
    ∷ record { steps = step_of 7 (update 9 1 (unsigned 4)) ∷ step_of 8 (remove 9 1) ∷ []; row = entry_id 9 1; setter = some 7; mark = none }
    ∷ []

-- none where a step failed
abbrev pub mark_left : Outcome → RowId → Option ℕ
mark_left (done p) r = row_mark p r
mark_left (stopped fault) r = none

-- what a run and its marks compute through
unfoldable pub opened_marks : Unit {0}
unfolding
    last_setter gives_value same_row or_else row_mark binding_mark availability_mark entry_mark
    lex_less upsert lookup empty binding_key availability_key find_first insert_before_first replace_first remove_first
    is_entry is_later contains contains_neighbour insert_last insert_before insert_entry replace_entry remove_entry
    with_bindings with_availabilities with_entries apply_binding apply_availability apply_insert apply_update apply_remove apply_move apply_operation apply_step apply_steps
opened_marks = tt

pub marked_runs_hold : All (λ (r : MarkedRun). (last_setter r.row r.steps ≡ r.setter) × (mark_left (apply_steps started r.steps) r.row ≡ r.mark)) marked_runs
unfolding opened_marks
marked_runs_hold = ((refl, refl), ((refl, refl), ((refl, refl), ((refl, refl), ((refl, refl), ((refl, refl), tt))))))
