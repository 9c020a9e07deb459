-- What the readers of heads answer, as definitions of what spec_patch reads.
use Rattle.std.specs.Prelude.{ℕ, ◌+◌, List, [], ◌∷◌, length}
use Rattle.std.specs.Prelude as code
use Rattle.spec_patch.specs.Patch as model
use Rattle.spec_patch.specs.Reader.{Result}
use Rattle.projection_patch.specs.Meaning.{envelope_to}
use Rattle.projection_patch.specs.ReadAnswers.{answer, anywhere}
use Rattle.projection_patch.specs.declared.patch.ProjectionPatch.{ProjectionPatch}
use Rattle.projection_patch.specs.declared.patch.ProjectionPatchEnvelope.{ProjectionPatchEnvelope}
use Rattle.projection_patch.specs.declared.read_values.ProjectionPatchReadFault.{ProjectionPatchReadFault}

abbrev pub envelope_answer : ℕ → Result model.Envelope → code.Result (ProjectionPatchEnvelope × ℕ) ProjectionPatchReadFault
envelope_answer = answer (anywhere envelope_to)

abbrev pub head_to : model.Envelope × ℕ → ProjectionPatch
head_to h = record { envelope = envelope_to h.0; operation_count = h.1 }

abbrev pub head_answer : ℕ → Result (model.Envelope × ℕ) → code.Result (ProjectionPatch × ℕ) ProjectionPatchReadFault
head_answer = answer (anywhere head_to)

-- the operations of all patches
unfoldable pub operation_count_lem : List model.Patch → ℕ
operation_count_lem [] = 0
operation_count_lem (p ∷ ps) = length p.operations + operation_count_lem ps
