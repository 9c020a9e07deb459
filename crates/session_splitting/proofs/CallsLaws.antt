-- Calls that follow one another on a struct give what the sending of the pieces to its session gives.
use Rattle.std.specs.Prelude.{ℕ, ◌+◌, ◌≡◌, refl, Bool, true, false, List, [], ◌∷◌, map, length}
use Rattle.std.proofs.Common.{sym, ap, ap₂, subst, ◌∙◌}
use Rattle.spec_patch.specs.Edition.{Edition}
use Rattle.spec_patch.specs.Encode.{encode}
use Rattle.spec_session.specs.Session.{Session}
use Rattle.spec_session.specs.Batch.{BatchAnswer, batch}
use Rattle.spec_splitting.specs.Splitting.{Piece, Run, references, piece_envelope, send, is_rejected, continue, send_all}
use Rattle.shell_player.specs.declared.session.ShellSession.{ShellSession}
use Rattle.shell_player.specs.declared.batch.ProjectionPatchBatch.{ProjectionPatchBatch}
use Rattle.shell_player.specs.Holds.{Holds}
use Rattle.session_steps.specs.Answers.{disposition_told, batch_answer_of}
use Rattle.shell_player.specs.Batches.{BatchBecame}
use Rattle.session_splitting.specs.Calls.{Sent, UnlessRejected, Calls, last_of}

abbrev pub answers_of : List ProjectionPatchBatch → List BatchAnswer
answers_of bs = map (λ (b : ProjectionPatchBatch). batch_answer_of b.result) bs

-- a call with a piece is the sending of that piece
pub sent_is : (ed : Edition) (s : ShellSession) (m : Session) → Holds s m → (n : ℕ) (p : Piece) (b : ProjectionPatchBatch) → Sent ed s n p b → BatchBecame b (send ed m n p)
unfolding send piece_envelope
sent_is ed s m h n p b sent =
    subst (λ i. BatchBecame b (batch ed m (record { session = i; sequence = n; patches = length p.patches; stimulus_bytes = p.stimulus_bytes }) (references p) (encode ed p.patches))) h.id (sent.became m h)

pub record FollowsRun (s : ShellSession) (bs : List ProjectionPatchBatch) (r : Run) : Type 0 where
  pub answers : answers_of bs ≡ r.answers
  pub last : Holds (last_of s bs) r.last

pub calls_follow : (ed : Edition) (ps : List Piece) (bs : List ProjectionPatchBatch) (s : ShellSession) (m : Session) (n : ℕ) → Holds s m → Calls ed s n ps bs → FollowsRun s bs (send_all ed m n ps)
unfolding send_all continue last_of
calls_follow ed [] [] s m n h c = record { answers = refl; last = h }
calls_follow ed [] (b ∷ bs) s m n h c = absurd c
calls_follow ed (p ∷ ps) [] s m n h c = absurd c
calls_follow ed (p ∷ ps) (b ∷ bs) s m n h c = go (is_rejected (disposition_told b.result.disposition)) refl c.1 (λ k on. calls_follow ed ps bs b.session (send ed m n p).next (n + 1) k on)
  where
    step : BatchBecame b (send ed m n p)
    step = sent_is ed s m h n p b c.0

    told : is_rejected (send ed m n p).answer.disposition ≡ is_rejected (disposition_told b.result.disposition)
    told = ap (λ (a : BatchAnswer). is_rejected a.disposition) (sym step.answer)

    go : (t : Bool) → is_rejected (disposition_told b.result.disposition) ≡ t → UnlessRejected t bs (Calls ed b.session (n + 1) ps bs)
        → (Holds b.session (send ed m n p).next → Calls ed b.session (n + 1) ps bs → FollowsRun b.session bs (send_all ed (send ed m n p).next (n + 1) ps))
        → FollowsRun s (b ∷ bs) (continue (send ed m n p) (send_all ed (send ed m n p).next (n + 1) ps))
    go true e none ih = rw (told ∙ e, none) (record { answers = ap (λ (a : BatchAnswer). a ∷ []) step.answer; last = step.next })
    go false e on ih =
        let rest = ih step.next on in
        rw (told ∙ e) (record { answers = ap₂ (λ (a : BatchAnswer) (l : List BatchAnswer). a ∷ l) step.answer rest.answers; last = rest.last })
