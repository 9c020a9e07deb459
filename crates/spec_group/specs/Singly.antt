-- The batches of a group as single calls, and what is claimed of the group beside them; pieces of a batch as a group.
use Rattle.std.specs.Prelude.{ℕ, ◌+◌, ◌-◌, ◌≡◌, true, false, length, drop}
use mathlib.Core.List.{List, [], ◌∷◌, ◌++◌, flat_map}
use Rattle.spec_lists.specs.Lists.{All}
use Rattle.spec_patch.specs.Edition.{Edition}
use Rattle.spec_patch.specs.Encode.{encode}
use Rattle.spec_session.specs.Session.{at, Session}
use Rattle.spec_session.specs.Batch.{BatchAnswer}
use Rattle.spec_splitting.specs.Splitting.{Piece, piece_envelope, references, send, Run, is_rejected, continue, Applies, AlikeBeside, FailsAtOperation}
use Rattle.spec_group.specs.Group.{GroupBatch, send_first, taken, refused_at, with_cursor, GroupStep, group}

-- one call after the other, each on the session just handed back; a refused one ends the sending
unfoldable pub singly : Session → List GroupBatch → List ℕ → Run
singly s [] sets = record { answers = []; last = s }
singly s (b ∷ bs) sets = continue (send_first s b sets) (singly (send_first s b sets).next bs (drop b.bytes sets))

-- Applied and NoChange both count as taken
abbrev pub WasTaken : BatchAnswer → Type 0
WasTaken a = is_rejected a.disposition ≡ false

-- the single calls ended with a refusal, behind these answers
pub record EndsRefused (r : Run) : Type 0 where
  pub firsts : List BatchAnswer
  pub refusal : BatchAnswer
  pub answers : r.answers ≡ firsts ++ refusal ∷ []
  pub rejected : is_rejected refusal.disposition ≡ true

-- all are taken as the single calls take them; or none, and the answer is the refused call's with the cursor from before the group
pub record AllOrNone (s : Session) (bs : List GroupBatch) (sets : List ℕ) : Type 0 where
  pub all : All WasTaken (singly s bs sets).answers → group s bs sets ≡ record { next = (singly s bs sets).last; answer = taken (length bs) (singly s bs sets).last.cursor }
  pub none : (e : EndsRefused (singly s bs sets)) → group s bs sets ≡ record { next = s; answer = refused_at (length e.firsts) (with_cursor s.cursor e.refusal) }

-- ---- pieces as a group

-- the batch of a piece, as whole and pieces sends it
unfoldable pub piece_batch : Edition → Session → ℕ → Piece → GroupBatch
piece_batch ed s n p = record { edition = ed; envelope = piece_envelope s n p; references = references p; bytes = length (encode ed p.patches) }

-- piece i, from 0, carries the number n + i
unfoldable pub piece_batches : Edition → Session → ℕ → List Piece → List GroupBatch
piece_batches ed s n [] = []
piece_batches ed s n (p ∷ ps) = piece_batch ed s n p ∷ piece_batches ed s (n + 1) ps

-- their sets end to end
unfoldable pub piece_sets : Edition → List Piece → List ℕ
piece_sets ed ps = flat_map (λ (p : Piece). encode ed p.patches) ps

unfoldable pub send_group : Edition → Session → ℕ → List Piece → GroupStep
send_group ed s n ps = group s (piece_batches ed s n ps) (piece_sets ed ps)

-- every piece is taken, and the projection ends as the whole's
pub record TakenAsWhole (ed : Edition) (s : Session) (n : ℕ) (whole : Piece) (pieces : List Piece) : Type 0 where
  pub answer : (send_group ed s n pieces).answer ≡ taken (length pieces) (at (n + (length pieces - 1)))
  pub projection : (send_group ed s n pieces).next.projection ≡ (send ed s n whole).next.projection
  pub beside : AlikeBeside (send_group ed s n pieces).next (send ed s n whole).next

-- the group is refused with the whole's diagnostics, and leaves the session that the whole leaves: the starting one
pub record RefusedAsWhole (ed : Edition) (s : Session) (n : ℕ) (whole : Piece) (pieces : List Piece) : Type 0 where
  pub place : ℕ
  pub refusal : BatchAnswer
  pub answer : (send_group ed s n pieces).answer ≡ refused_at place (with_cursor s.cursor refusal)
  pub alike : refusal.diagnostics ≡ (send ed s n whole).answer.diagnostics
  pub kept : (send_group ed s n pieces).next ≡ s
  pub whole_kept : (send ed s n whole).next ≡ s

-- the claim on at most eight pieces
pub record GroupAsWhole (ed : Edition) (s : Session) (n : ℕ) (whole : Piece) (pieces : List Piece) : Type 0 where
  pub applies : Applies (send ed s n whole).answer → TakenAsWhole ed s n whole pieces
  pub fails : FailsAtOperation ed s n whole → RefusedAsWhole ed s n whole pieces
