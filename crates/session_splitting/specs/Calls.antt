-- Batches sent to a session's struct one after the other, linked by the relation that the batch call promises: 01, 'Whole and pieces'.
use Rattle.std.specs.Prelude.{ℕ, ◌+◌, ◌≡◌, Bool, true, false, List, [], ◌∷◌, length}
use Rattle.spec_patch.specs.Edition.{Edition}
use Rattle.spec_patch.specs.Encode.{encode}
use Rattle.spec_splitting.specs.Splitting.{Piece, references, is_rejected}
use Rattle.session_gates.specs.declared.gates.OrderedProjectionPatchBatchEnvelope.{OrderedProjectionPatchBatchEnvelope}
use Rattle.shell_player.specs.declared.session.ShellSession.{ShellSession}
use Rattle.session_steps.specs.Answers.{disposition_told}
use Rattle.shell_player.specs.declared.batch.ProjectionPatchBatch.{ProjectionPatchBatch}
use Rattle.shell_player.specs.Batches.{BatchCall}

-- the session's own id, a sequence number, the true patch count, the piece's byte figure
abbrev pub envelope_for : ShellSession → ℕ → Piece → OrderedProjectionPatchBatchEnvelope
envelope_for s n p = record { session_id = s.context.session_id; sequence_no = n; patch_count = length p.patches; stimulus_bytes = p.stimulus_bytes }

-- a call of the session with a piece: that envelope, the true counts, the canonical bytes and their edition
abbrev pub Sent : Edition → ShellSession → ℕ → Piece → ProjectionPatchBatch → Type 0
Sent ed s n p b = BatchCall s (envelope_for s n p) (references p) (encode ed p.patches) ed b

-- nothing follows a refusal
abbrev pub UnlessRejected : {A : Type 0} → Bool → List A → Type 0 → Type 0
UnlessRejected true bs on = bs ≡ []
UnlessRejected false bs on = on

-- piece i, from 0, carries the number n + i; each goes to the session just handed back, until one is refused
abbrev pub Calls : Edition → ShellSession → ℕ → List Piece → List ProjectionPatchBatch → Type 0
Calls ed s n [] [] = Unit {0}
Calls ed s n [] (b ∷ bs) = ⊥
Calls ed s n (p ∷ ps) [] = ⊥
Calls ed s n (p ∷ ps) (b ∷ bs) = Sent ed s n p b × UnlessRejected (is_rejected (disposition_told b.result.disposition)) bs (Calls ed b.session (n + 1) ps bs)

-- the session that was handed back last
unfoldable pub last_of : ShellSession → List ProjectionPatchBatch → ShellSession
last_of s [] = s
last_of s (b ∷ bs) = last_of b.session bs
