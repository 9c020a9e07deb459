-- What reading a whole set answers, and what is left of it at a cursor.
use Rattle.std.specs.Prelude as code
use Rattle.std.specs.Prelude.{ℕ, ◌+◌, List, [], ◌∷◌, ltb, length, drop, if◌then◌else◌}
use Rattle.spec_patch.specs.Patch as model
use Rattle.spec_patch.specs.Edition.{Edition}
use Rattle.spec_patch.specs.Reader.{Result, read, refused, Reader, pair, many}
use Rattle.spec_patch.specs.Read.{read_operation, read_patch, SetReading, patches, fault}
use Rattle.projection_patch.specs.ReadAnswers.{fault_to}
use Rattle.projection_patch.specs.declared.read_values.ProjectionPatchReadFault.TheVariants.{Malformed}
use Rattle.patch_sets.specs.SetAnswers.{operation_count_lem}
use Rattle.patch_walk.specs.declared.SetCursor.{SetCursor}
use Rattle.patch_walk.specs.declared.SetCounts.{SetCounts}
use Rattle.projection_patch.specs.declared.read_values.ProjectionPatchReadFault.{ProjectionPatchReadFault}

abbrev pub CountAnswer : Type 0
CountAnswer = code.Result SetCounts ProjectionPatchReadFault

abbrev pub counted : ℕ → ℕ → CountAnswer
counted n m = code.Ok (record { patch_count = n; operation_count = m })

-- the counts of a readable set, or its first fault
abbrev pub set_answer : SetReading → CountAnswer
set_answer (patches ps) = counted (length ps) (operation_count_lem ps)
set_answer (fault f) = code.Err (fault_to f)

-- so many operations, then so many patches
abbrev pub read_left : Edition → ℕ → ℕ → Reader (List model.Operation × List model.Patch)
read_left ed n m = pair (many n (read_operation ed)) (many m (read_patch ed))

-- the answer for a set of so many patches, of which so many operations were read before; bytes behind the last patch are 10
abbrev pub left_answer : ℕ → ℕ → Result (List model.Operation × List model.Patch) → CountAnswer
left_answer count done (read t []) = counted count (done + (length t.0 + operation_count_lem t.1))
left_answer count done (read t (b ∷ rest)) = code.Err Malformed
left_answer count done (refused f) = code.Err (fault_to f)

abbrev pub left_at : Edition → List ℕ → SetCursor → ℕ → CountAnswer
left_at ed set c done = left_answer c.patch_count done (read_left ed c.operations_left c.patches_left (drop c.at set))

-- where nothing is left, in a set of so many bytes
abbrev pub end_answer : ℕ → SetCursor → ℕ → CountAnswer
end_answer size c done = if ltb c.at size then code.Err Malformed else counted c.patch_count done
