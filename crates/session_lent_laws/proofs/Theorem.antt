-- Whole and pieces, for the calls on lent memory: they are calls by value of the structs that have the memory's bytes.
use Rattle.std.specs.Prelude.{ℕ, suc, ◌+◌, ◌-◌, ◌≡◌, refl, Bool, true, false, List, [], ◌∷◌, length}
use Rattle.std.proofs.Math.Path.{sym, ap}
use Rattle.std.proofs.Common.{◌∙◌}
use Rattle.spec_lists.specs.Lists.{All}
use Rattle.spec_patch.specs.Edition.{Edition}
use Rattle.spec_patch.specs.Encode.{encode}
use Rattle.spec_session.specs.Session.{Session}
use Rattle.spec_splitting.specs.Splitting.{Piece, references, is_rejected, Given}
use Rattle.session_lifecycle.specs.Meaning.{cursor_of}
use Rattle.session_steps.specs.declared.answers.ProjectionPatchApplicationDisposition.{ProjectionPatchApplicationDisposition}
use Rattle.session_steps.specs.Answers.{disposition_told}
use Rattle.shell_player.specs.declared.session.ShellSession.{ShellSession}
use Rattle.session_splitting.specs.Calls.{envelope_for, Sent, UnlessRejected, Calls, last_of}
use Rattle.session_splitting.specs.Claim.{WasApplied, CallsInPieces}
use Rattle.session_splitting.proofs.Theorem.{session_whole_and_pieces}
use Rattle.session_lent.specs.Head.{state_at}
use Rattle.session_lent.specs.Halves.{Anchors, Half}
use Rattle.session_lent_laws.specs.Memory.{Memory, Panel, exchanged, struct_in}
use Rattle.session_lent_laws.specs.Calls.{LentCall, after_call, LentSent, LentCalls, last_memory, as_batch, as_batches, CallApplied, AllAppliedIn}
use Rattle.session_lent_laws.proofs.StructLaws.{struct_holds, cursor_told}
use Rattle.session_lent_laws.proofs.CallLaws.{lent_is_call, lent_goes_on}

-- ---- one call

module _ (ed : Edition) (k : Anchors) (p : Memory) (m : Session) (panel : Panel k p m) (n : ℕ) (q : Piece) (c : LentCall) (sent : LentSent ed k p n q c) where
  pub lent_sent : Sent ed (struct_in k p.held) n q (as_batch k p c)
  lent_sent = lent_is_call ed (envelope_for (struct_in k p.held) n q) (references q) (encode ed q.patches) k p m panel c.result c.written c.plan sent

  next_panel : (x : Session) × Panel k (after_call p c) x
  next_panel = (_, lent_goes_on ed _ (references q) (encode ed q.patches) k p m panel c.result c.written c.plan sent)

-- ---- calls that follow one another

pub lent_calls : (ed : Edition) (k : Anchors) (qs : List Piece) (cs : List LentCall) (p : Memory) (m : Session) (n : ℕ) → Panel k p m → LentCalls ed k p n qs cs → Calls ed (struct_in k p.held) n qs (as_batches k p cs)
unfolding as_batches
lent_calls ed k [] [] p m n panel c = tt
lent_calls ed k [] (x ∷ cs) p m n panel c = absurd c
lent_calls ed k (q ∷ qs) [] p m n panel c = absurd c
lent_calls ed k (q ∷ qs) (x ∷ cs) p m n panel c =
    let next = next_panel ed k p m panel n q x c.0 in
    (lent_sent ed k p m panel n q x c.0, go (is_rejected (disposition_told x.result.disposition)) c.1 (λ on. lent_calls ed k qs cs (after_call p x) next.0 (n + 1) next.1 on))
  where
    go : (t : Bool) → UnlessRejected t cs (LentCalls ed k (after_call p x) (n + 1) qs cs)
        → (LentCalls ed k (after_call p x) (n + 1) qs cs → Calls ed (struct_in k (after_call p x).held) (n + 1) qs (as_batches k (after_call p x) cs))
        → UnlessRejected t (as_batches k (after_call p x) cs) (Calls ed (struct_in k (after_call p x).held) (n + 1) qs (as_batches k (after_call p x) cs))
    go true none ih = ap (as_batches k (after_call p x)) none
    go false on ih = ih on

last_struct : (k : Anchors) (p : Memory) (cs : List LentCall) → last_of (struct_in k p.held) (as_batches k p cs) ≡ struct_in k (last_memory p cs).held
unfolding last_of as_batches last_memory
last_struct k p [] = refl
last_struct k p (c ∷ cs) = last_struct k (after_call p c) cs

batches_length : (k : Anchors) (p : Memory) (cs : List LentCall) → length (as_batches k p cs) ≡ length cs
unfolding as_batches
batches_length k p [] = refl
batches_length k p (c ∷ cs) = ap suc (batches_length k (after_call p c) cs)

all_applied : (k : Anchors) (p : Memory) (cs : List LentCall) → All WasApplied (as_batches k p cs) → All CallApplied cs
unfolding as_batches
all_applied k p [] h = tt
all_applied k p (c ∷ cs) h = (h.0, all_applied k (after_call p c) cs h.1)

-- ---- the claim

module _ (ed : Edition) (k : Anchors) (p : Memory) (m : Session) (panel : Panel k p m) (n : ℕ) (whole : Piece) (pieces : List Piece) (given : Given m n whole pieces)
    (w : LentCall) (sent : LentSent ed k p n whole w) (cs : List LentCall) (calls : LentCalls ed k p n pieces cs) where
  -- what is claimed of calls by value holds of those that the lent calls stand for
  pub lent_whole_and_pieces : CallsInPieces ed (struct_in k p.held) m n whole pieces (as_batch k p w) (as_batches k p cs)
  lent_whole_and_pieces =
      session_whole_and_pieces ed (struct_in k p.held) m (struct_holds k p.held m panel.held) n whole pieces given
      (as_batch k p w) (lent_sent ed k p m panel n whole w sent) (as_batches k p cs) (lent_calls ed k pieces cs p m n panel calls)

  -- in the memory's own terms
  pub lent_all_applied : CallApplied w → AllAppliedIn p n pieces w cs
  unfolding cursor_of
  lent_all_applied applied =
      let all = lent_whole_and_pieces.applies applied in
      let end = sym (last_struct k p cs) ∙ all.ended in
      let half : (after_call p w).held ≡ w.written = ap (λ (d : ProjectionPatchApplicationDisposition). (exchanged d p.held w.written w.plan).held) applied in
      record {
        sent = sym (batches_length k p cs) ∙ all.sent;
        apply = all_applied k p cs all.apply;
        bindings = ap (λ (s : ShellSession). s.local_projection.bindings) end ∙ ap (λ (h : Half). h.bindings) half;
        availability = ap (λ (s : ShellSession). s.local_projection.availability) end ∙ ap (λ (h : Half). h.availability) half;
        entries = ap (λ (s : ShellSession). s.local_projection.entries) end ∙ ap (λ (h : Half). h.entries) half;
        lengths = ap (λ (s : ShellSession). s.local_projection.lengths) end ∙ ap (λ (h : Half). h.lengths) half;
        cursor = sym (cursor_told (state_at (last_memory p cs).held.head).cursor) ∙ ap (λ (s : ShellSession). cursor_of s.state.replay_cursor) end;
      }
