-- The theorem on split batches speaks of something: a list of two patches of the second edition that applies whole and in two pieces, and one
-- of the first that fails only at an operation, which stands in the second piece.
use Rattle.std.specs.Prelude.{ℕ, ◌+◌, ◌≡◌, refl, List, [], ◌∷◌, length}
use Rattle.std.proofs.Math.Option.{Option, none, some}
use Rattle.std.proofs.Common.{arith}
use Rattle.spec_patch.specs.Patch.{Operation, Patch, unsigned, score, set_availability, insert, remove, pending}
use Rattle.spec_patch.specs.Edition.{v1, v2}
use Rattle.spec_patch.specs.Fits.{OperationHolds, InRangeValue, OptionalU64}
use Rattle.spec_projection.specs.Projection.{empty}
use Rattle.spec_projection.specs.Lookups.{availability_mark, entry_mark}
use Rattle.spec_projection.specs.Apply.{key_rule}
use Rattle.spec_session.specs.Session.{uninitialized, Session, active}
use Rattle.spec_splitting.specs.Splitting.{Piece, piece_envelope, references, send, continue, is_rejected, send_all, patches_of, Given, Applies, FailsAtOperation}
use Rattle.spec_examples.specs.Opened.{opened_all}

unfoldable pub patch_numbered : ℕ → List Operation → Patch
patch_numbered n os = record {
  envelope = record { id = n; stream = 1; document = 1; surface = none; previous = n; revision = n + 1; epoch = 1; sequence = n };
  operations = os;
}

unfoldable pub start_session : Session
start_session = record {
  id = 7;
  limits = record { stimulus_bytes = 100; diagnostics = 4; patches = 8; references = 8 };
  catalogue = record { nodes = 5 ∷ []; bindings = []; collections = 9 ∷ [] };
  lifecycle = active;
  cursor = uninitialized;
  projection = empty;
}

unfoldable pub piece : List Patch → Piece
piece ps = record { patches = ps; stimulus_bytes = 50 }

-- inserts key 1 into collection 9
unfoldable pub first : Patch
first = patch_numbered 1 (insert 9 1 none (unsigned 3) ∷ [])

-- the same with a score
unfoldable pub scored : Patch
scored = patch_numbered 1 (insert 9 1 none (score 87) ∷ [])

unfoldable pub second : Patch
second = patch_numbered 2 (set_availability 5 pending ∷ [])

-- removes a key that is not there
unfoldable pub failing_patch : Patch
failing_patch = patch_numbered 2 (remove 9 2 ∷ [])

-- ---- a list that applies

abbrev pub pieces : List Piece
pieces = piece (scored ∷ []) ∷ piece (second ∷ []) ∷ []

pub given_pieces : Given start_session 40 (piece (scored ∷ second ∷ [])) pieces
unfolding start_session piece scored second patch_numbered opened_all patches_of OperationHolds InRangeValue OptionalU64
given_pieces = record { in_range = omega arith; cut = refl; non_empty = omega arith; figures = omega arith; numbers = omega arith }

-- the whole applies
pub premise_applies : Applies (send v2 start_session 40 (piece (scored ∷ second ∷ []))).answer
unfolding opened_all send piece_envelope references start_session piece scored second patch_numbered
premise_applies = refl

-- rows are marked by their patches, 1 and 2, and not by the numbers of the batches, 40 and 41: 02, Job 11
abbrev pub split_marks : Session → List (Option ℕ)
split_marks s = entry_mark s.projection 9 1 ∷ availability_mark s.projection 5 ∷ []

pub marks_alike : (split_marks (send v2 start_session 40 (piece (scored ∷ second ∷ []))).next ≡ some 1 ∷ some 2 ∷ []) × (split_marks (send_all v2 start_session 40 pieces).last ≡ some 1 ∷ some 2 ∷ [])
unfolding opened_all send send_all continue is_rejected piece_envelope references start_session piece scored second patch_numbered entry_mark availability_mark
marks_alike = (refl, refl)

-- ---- a list that fails in its second piece

abbrev pub failing_pieces : List Piece
failing_pieces = piece (first ∷ []) ∷ piece (failing_patch ∷ []) ∷ []

pub given_failing : Given start_session 40 (piece (first ∷ failing_patch ∷ [])) failing_pieces
unfolding start_session piece first failing_patch patch_numbered opened_all patches_of OperationHolds InRangeValue OptionalU64
given_failing = record { in_range = omega arith; cut = refl; non_empty = omega arith; figures = omega arith; numbers = omega arith }

-- the whole passes steps 1 to 8 and fails in step 9, by the key rule
pub premise_fails : FailsAtOperation v1 start_session 40 (piece (first ∷ failing_patch ∷ []))
unfolding opened_all piece_envelope references start_session piece first failing_patch patch_numbered
premise_fails = record { patches = first ∷ failing_patch ∷ []; passes = refl; fault = key_rule; fails = refl }

-- the refusal is 8, of two answers
pub fails_with_8 : ((send v1 start_session 40 (piece (first ∷ failing_patch ∷ []))).answer.diagnostics.code ≡ 8) × (length (send_all v1 start_session 40 failing_pieces).answers ≡ 2)
unfolding opened_all send send_all continue is_rejected piece_envelope references start_session piece first failing_patch patch_numbered
fails_with_8 = (refl, refl)
