-- What the theorem on split batches says: 01, 'Whole and pieces'. A patch list is sent whole, and the same list is sent in pieces, all in
-- one edition, which each call is told (02, 'Job 13').
use Rattle.std.specs.Prelude.{ℕ, zero, suc, ◌+◌, ◌-◌, ◌≤◌, ◌<◌, ◌^◌, ◌≡◌, Bool, true, false, length, if◌then◌else◌}
use mathlib.Core.List.{List, [], ◌∷◌, ◌++◌, flat_map}
use Rattle.spec_lists.specs.Lists.{All}
use Rattle.spec_patch.specs.Patch.{Patch}
use Rattle.spec_patch.specs.Edition.{Edition}
use Rattle.spec_patch.specs.Encode.{encode}
use Rattle.spec_patch.specs.Fits.{InRange}
use Rattle.spec_projection.specs.Projection.{Projection}
use Rattle.spec_projection.specs.Apply.{OperationFault, done, stopped, ReplayStep, replay_steps, operations_of, apply_step, apply_steps}
use Rattle.spec_session.specs.Session.{Cursor, at, Session}
use Rattle.spec_session.specs.Diagnostics.{Diagnostics}
use Rattle.spec_session.specs.Lifecycle.{Disposition, applied, no_change, rejected}
use Rattle.spec_session.specs.Batch.{BatchEnvelope, BatchAnswer, BatchStep, pass, batch_checks, batch}

-- ---- sending

-- a batch to send: its patches, and the byte figure that its envelope declares
pub record Piece : Type 0 where
  pub patches : List Patch
  pub stimulus_bytes : ℕ

-- the session's id, a sequence number, the true patch count
unfoldable pub piece_envelope : Session → ℕ → Piece → BatchEnvelope
piece_envelope s n p = record { session = s.id; sequence = n; patches = length p.patches; stimulus_bytes = p.stimulus_bytes }

-- the true count of target references
unfoldable pub references : Piece → ℕ
references p = length (operations_of p.patches)

-- a batch call with that envelope, the true counts and the canonical bytes
unfoldable pub send : Edition → Session → ℕ → Piece → BatchStep
send ed s n p = batch ed s (piece_envelope s n p) (references p) (encode ed p.patches)

-- what sending a list of pieces gives: the answers in order, and the session that was handed back last
pub record Run : Type 0 where
  pub answers : List BatchAnswer
  pub last : Session

unfoldable pub is_rejected : Disposition → Bool
is_rejected applied = false
is_rejected no_change = false
is_rejected rejected = true

-- a piece that is refused ends the sending
unfoldable pub continue : BatchStep → Run → Run
continue b r =
    if is_rejected b.answer.disposition
    then record { answers = b.answer ∷ []; last = b.next }
    else record { answers = b.answer ∷ r.answers; last = r.last }

-- piece i, from 0, carries the number n + i; it goes to the session just handed back, until a piece is refused
unfoldable pub send_all : Edition → Session → ℕ → List Piece → Run
send_all ed s n [] = record { answers = []; last = s }
send_all ed s n (p ∷ ps) = continue (send ed s n p) (send_all ed (send ed s n p).next (n + 1) ps)

-- the pieces' patches, in order
unfoldable pub patches_of : List Piece → List Patch
patches_of ps = flat_map (λ (p : Piece). p.patches) ps

-- ---- what is given: a session s, the whole's sequence number n, the whole, and the pieces

pub record Given (s : Session) (n : ℕ) (whole : Piece) (pieces : List Piece) : Type 0 where
  -- the whole is a patch list: its numbers are u64, its slots u32, its signed numbers i64
  pub in_range : InRange whole.patches
  -- the pieces' patches in order are the whole's
  pub cut : patches_of pieces ≡ whole.patches
  -- no piece is without patches
  pub non_empty : All (λ (p : Piece). 0 < length p.patches) pieces
  -- each piece declares a byte figure within the limit
  pub figures : All (λ (p : Piece). p.stimulus_bytes ≤ s.limits.stimulus_bytes) pieces
  -- the numbers n, n + 1, .. of the pieces are u64
  pub numbers : n + length pieces ≤ 2 ^ 64

-- ---- what is claimed

-- to apply is to answer Applied
abbrev pub Applies : BatchAnswer → Type 0
Applies a = a.disposition ≡ applied

-- two sessions alike in every field but cursor and projection, which each claim gives by itself
pub record AlikeBeside (a b : Session) : Type 0 where
  pub id : a.id ≡ b.id
  pub limits : a.limits ≡ b.limits
  pub catalogue : a.catalogue ≡ b.catalogue
  pub lifecycle : a.lifecycle ≡ b.lifecycle

-- every piece applies, the sessions end alike, and the cursor stands at the last piece's number
pub record AllApply (n : ℕ) (whole : BatchStep) (pieces : List Piece) (r : Run) : Type 0 where
  pub sent : length r.answers ≡ length pieces
  pub apply : All Applies r.answers
  pub beside : AlikeBeside r.last whole.next
  pub projection : r.last.projection ≡ whole.next.projection
  pub cursor : r.last.cursor ≡ at (n + (length pieces - 1))

-- to fail only at an operation is to pass steps 1 to 8 and to fail in step 9
pub record FailsAtOperation (ed : Edition) (s : Session) (n : ℕ) (whole : Piece) : Type 0 where
  pub patches : List Patch
  pub passes : batch_checks ed s (piece_envelope s n whole) (references whole) (encode ed whole.patches) ≡ pass patches
  pub fault : OperationFault
  pub fails : apply_steps s.projection (replay_steps patches) ≡ stopped fault

-- the cursor after so many pieces from number n on
unfoldable pub cursor_after : Cursor → ℕ → ℕ → Cursor
cursor_after c n zero = c
cursor_after c n (suc k) = at (n + k)

-- the operation at which the whole fails stands in this piece, behind these pieces: the first of the whole's that fails
pub record FailsIn (s : Session) (whole : Piece) (fault : OperationFault) (before : List Piece) (piece : Piece) : Type 0 where
  pub own_before : List ReplayStep
  pub step : ReplayStep
  pub own_after : List ReplayStep
  pub in_piece : replay_steps piece.patches ≡ own_before ++ step ∷ own_after
  pub rest : List ReplayStep
  pub in_whole : replay_steps whole.patches ≡ (replay_steps (patches_of before) ++ own_before) ++ step ∷ rest
  pub reached : Projection
  pub ran : apply_steps s.projection (replay_steps (patches_of before) ++ own_before) ≡ done reached
  pub fails : apply_step reached step ≡ stopped fault

-- the failing operation stands in one piece; those before it apply, that piece is refused as the whole is, nothing more is sent, and the
-- projection is the starting one with just the earlier pieces' operations
pub record StopsAtPiece (s : Session) (n : ℕ) (whole : Piece) (fault : OperationFault) (diagnostics : Diagnostics) (pieces : List Piece) (r : Run) : Type 0 where
  pub before : List Piece
  pub piece : Piece
  pub after : List Piece
  pub parts : pieces ≡ before ++ piece ∷ after
  pub operation : FailsIn s whole fault before piece
  -- the pieces before it apply; that piece is refused; there is no further answer
  pub firsts : List BatchAnswer
  pub refusal : BatchAnswer
  pub answers : r.answers ≡ firsts ++ refusal ∷ []
  pub sent : length firsts ≡ length before
  pub apply : All Applies firsts
  pub refused : refusal.disposition ≡ rejected
  -- with the whole's number, stage and counts
  pub alike : refusal.diagnostics ≡ diagnostics
  -- the session is the starting one after the earlier pieces
  pub beside : AlikeBeside r.last s
  pub projection : apply_steps s.projection (replay_steps (patches_of before)) ≡ done r.last.projection
  pub cursor : r.last.cursor ≡ cursor_after s.cursor n (length before)

-- the claim for one starting session, number, whole and list of pieces
pub record WholeAndPieces (ed : Edition) (s : Session) (n : ℕ) (whole : Piece) (pieces : List Piece) : Type 0 where
  -- where the whole applies
  pub applies : Applies (send ed s n whole).answer → AllApply n (send ed s n whole) pieces (send_all ed s n pieces)
  -- where the whole fails only at an operation
  pub fails : (f : FailsAtOperation ed s n whole) → StopsAtPiece s n whole f.fault (send ed s n whole).answer.diagnostics pieces (send_all ed s n pieces)
