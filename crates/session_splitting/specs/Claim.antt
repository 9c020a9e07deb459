-- What is claimed of the calls, field for field of the structs: 01, 'Whole and pieces'.
use Rattle.std.specs.Prelude.{ℕ, zero, suc, ◌+◌, ◌-◌, ◌≡◌, List, [], ◌∷◌, ◌++◌, length}
use Rattle.spec_lists.specs.Lists.{All}
use Rattle.spec_patch.specs.Edition.{Edition}
use Rattle.spec_projection.specs.Projection.{Projection}
use Rattle.spec_projection.specs.Apply.{OperationFault, done, replay_steps, apply_steps}
use Rattle.spec_session.specs.Session.{Session}
use Rattle.spec_splitting.specs.Splitting.{Piece, patches_of, FailsAtOperation, FailsIn}
use Rattle.session_lifecycle.specs.declared.state.ProjectionReplayCursor.{ProjectionReplayCursor}
use Rattle.session_lifecycle.specs.declared.state.ProjectionReplayCursor.TheVariants.{At}
use Rattle.local_projection_state.specs.Stores.{stored_state}
use Rattle.local_projection_state.specs.declared.LocalProjectionState.{LocalProjectionState}
use Rattle.shell_player.specs.declared.session.ShellSession.{ShellSession}
use Rattle.session_steps.specs.declared.answers.ProjectionPatchApplicationDisposition.TheVariants.{Applied, Rejected}
use Rattle.shell_player.specs.declared.batch.ProjectionPatchBatch.{ProjectionPatchBatch}
use Rattle.session_splitting.specs.Calls.{last_of}

abbrev pub WasApplied : ProjectionPatchBatch → Type 0
WasApplied b = b.result.disposition ≡ Applied

-- the session with another cursor and another projection, and everything else as it was
abbrev pub with_progress : ShellSession → ProjectionReplayCursor → LocalProjectionState → ShellSession
with_progress s c p = record {
  context = s.context;
  state = record { session_id = s.state.session_id; lifecycle = s.state.lifecycle; replay_cursor = c };
  local_projection = p;
}

-- the cursor after so many pieces from number n on
unfoldable pub cursor_past : ProjectionReplayCursor → ℕ → ℕ → ProjectionReplayCursor
cursor_past c n zero = c
cursor_past c n (suc k) = At (n + k)

-- every piece applies; the session ends as the whole's in every field, but that its cursor is at the last piece's number
pub record AllApplied (s : ShellSession) (n : ℕ) (pieces : List Piece) (whole : ProjectionPatchBatch) (bs : List ProjectionPatchBatch) : Type 0 where
  pub sent : length bs ≡ length pieces
  pub apply : All WasApplied bs
  pub ended : last_of s bs ≡ with_progress whole.session (At (n + (length pieces - 1))) whole.session.local_projection

-- the pieces before the failing operation's apply, that one is refused with the whole's number, stage and counts, and nothing more is sent; the
-- session ends as the starting one in every field, but for the cursor and the projection, which has just the earlier pieces' operations
pub record StopsAtRefusal (s : ShellSession) (m : Session) (n : ℕ) (whole : Piece) (fault : OperationFault) (pieces : List Piece) (w : ProjectionPatchBatch) (bs : List ProjectionPatchBatch) : Type 0 where
  pub before : List Piece
  pub piece : Piece
  pub after : List Piece
  pub parts : pieces ≡ before ++ piece ∷ after
  pub operation : FailsIn m whole fault before piece
  pub firsts : List ProjectionPatchBatch
  pub refusal : ProjectionPatchBatch
  pub answers : bs ≡ firsts ++ refusal ∷ []
  pub sent : length firsts ≡ length before
  pub apply : All WasApplied firsts
  pub refused : refusal.result.disposition ≡ Rejected
  pub alike : refusal.result.diagnostics ≡ w.result.diagnostics
  pub reached : Projection
  pub ran : apply_steps m.projection (replay_steps (patches_of before)) ≡ done reached
  pub ended : last_of s bs ≡ with_progress s (cursor_past s.state.replay_cursor n (length before)) (stored_state reached)

-- the claim for a struct that stores a session, the whole's call and the pieces' calls
pub record CallsInPieces (ed : Edition) (s : ShellSession) (m : Session) (n : ℕ) (whole : Piece) (pieces : List Piece) (w : ProjectionPatchBatch) (bs : List ProjectionPatchBatch) : Type 0 where
  pub applies : WasApplied w → AllApplied s n pieces w bs
  pub fails : (f : FailsAtOperation ed m n whole) → StopsAtRefusal s m n whole f.fault pieces w bs
