-- The premises of the theorem on marks are met: two patches fill an empty projection, and a third moves an entry.
use Rattle.std.specs.Prelude.{◌≡◌, refl, List, [], ◌∷◌}
use Rattle.std.proofs.Math.Option.{none, some, or_else}
use Rattle.spec_patch.specs.Patch.{unsigned, insert, update, move}
use Rattle.spec_projection.specs.Projection.{empty}
use Rattle.spec_projection.specs.Apply.{done, ReplayStep, step_of, apply_steps}
use Rattle.spec_projection.specs.Marks.{entry_id, row_mark, last_setter}
use Rattle.spec_projection.proofs.MarkExamples.{marked_entry, opened_marks}
use Rattle.spec_projection.proofs.MarksLaws.{last_setter_marks}
use Rattle.spec_projection.proofs.ValidLaws.{empty_valid, valid_ordered}

abbrev pub fills : List ReplayStep
fills = step_of 7 (insert 9 1 none (unsigned 4)) ∷ step_of 8 (update 9 1 (unsigned 0)) ∷ step_of 8 (insert 9 2 none (unsigned 0)) ∷ step_of 9 (move 9 1 none) ∷ []

fills_leave : apply_steps empty fills ≡ done (record { bindings = []; availabilities = []; entries = marked_entry 2 8 ∷ marked_entry 1 8 ∷ [] })
unfolding opened_marks
fills_leave = refl

pub marks_premises_met : or_else (last_setter (entry_id 9 1) fills) (row_mark empty (entry_id 9 1)) ≡ some 8
unfolding opened_marks
marks_premises_met = last_setter_marks empty fills _ (entry_id 9 1) 8 (valid_ordered empty empty_valid) fills_leave refl
