-- What the theorem on split batches says of the instances of SplitInstances.
use Rattle.std.specs.Prelude.{[], ◌∷◌}
use Rattle.spec_patch.specs.Edition.{v1, v2}
use Rattle.spec_splitting.specs.Splitting.{send, send_all, AllApply, StopsAtPiece}
use Rattle.spec_splitting.proofs.Theorem.{whole_and_pieces}
use Rattle.spec_examples.proofs.SplitInstances.{start_session, piece, first, scored, second, failing_patch, pieces, given_pieces, premise_applies, failing_pieces, given_failing, premise_fails}

-- and so do the two pieces
pub conclusion_applies : AllApply 40 (send v2 start_session 40 (piece (scored ∷ second ∷ []))) pieces (send_all v2 start_session 40 pieces)
conclusion_applies = (whole_and_pieces v2 start_session 40 _ pieces given_pieces).applies premise_applies

pub conclusion_fails : StopsAtPiece start_session 40 (piece (first ∷ failing_patch ∷ [])) premise_fails.fault (send v1 start_session 40 (piece (first ∷ failing_patch ∷ []))).answer.diagnostics failing_pieces (send_all v1 start_session 40 failing_pieces)
conclusion_fails = (whole_and_pieces v1 start_session 40 _ failing_pieces given_failing).fails premise_fails
