use Rattle.projection_patch.specs.Meaning.{edition_of}
use Rattle.patch_writer.proofs.Surveyed.{OperationsSeen}
use Rattle.patch_writer.proofs.survey.survey_operations.Given as goal

abbrev pub invariant-loop-place : goal.invariant-loop-place
invariant-loop-place l = OperationsSeen (edition_of l.edition) l.texts l.places l.bytes l.judgement l.place-index
