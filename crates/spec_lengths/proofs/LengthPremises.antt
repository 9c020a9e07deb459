-- The premises of the theorem on the lengths are met: three patches fill an empty projection, and empty one of its collections.
use Rattle.std.specs.Prelude.{◌≡◌, refl, List, [], ◌∷◌}
use Rattle.std.proofs.Math.Option.{none}
use Rattle.spec_patch.specs.Patch.{unsigned, insert, remove}
use Rattle.spec_projection.specs.Projection.{Projection, empty}
use Rattle.spec_projection.specs.Apply.{done, ReplayStep, step_of, apply_steps}
use Rattle.spec_projection.proofs.MarkExamples.{marked_entry}
use Rattle.spec_projection.proofs.ValidLaws.{empty_valid, valid_ordered}
use Rattle.spec_lengths.specs.Lengths.{collection_lengths, lengths_after_steps}
use Rattle.spec_lengths.proofs.LengthExamples.{opened_lengths}
use Rattle.spec_lengths.proofs.LengthsAfter.{lengths_after_steps_lem}

abbrev steps : List ReplayStep
steps = step_of 7 (insert 8 1 none (unsigned 0)) ∷ step_of 8 (insert 9 1 none (unsigned 0)) ∷ step_of 9 (remove 8 1) ∷ []

abbrev left : Projection
left = record { bindings = []; availabilities = []; entries = marked_entry 1 8 ∷ [] }

steps_leave : apply_steps empty steps ≡ done left
unfolding opened_lengths
steps_leave = refl

pub lengths_premises_met : collection_lengths left ≡ lengths_after_steps steps (collection_lengths empty)
lengths_premises_met = lengths_after_steps_lem empty steps left (valid_ordered empty empty_valid) steps_leave
