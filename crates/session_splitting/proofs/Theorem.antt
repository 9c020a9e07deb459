-- Whole and pieces, for the calls of the code.
use Rattle.std.specs.Prelude.{ℕ, zero, suc, ◌+◌, ◌-◌, ◌≡◌, refl, List, [], ◌∷◌, ◌++◌}
use Rattle.std.proofs.Math.Path.{sym, ap}
use Rattle.std.proofs.Common.{ap₂, subst, ◌∙◌, arith}
use Rattle.std.proofs.Math.ListN.{length}
use Rattle.std.proofs.lemmas.List.{length-map}
use Rattle.spec_lists.specs.Lists.{All}
use Rattle.spec_patch.specs.Edition.{Edition}
use Rattle.spec_projection.specs.Projection.{Projection}
use Rattle.spec_session.specs.Session.{Cursor, Session}
use Rattle.spec_session.specs.Lifecycle as step
use Rattle.spec_session.specs.Lifecycle.{Disposition}
use Rattle.spec_session.specs.Lifecycle.{state_of}
use Rattle.spec_session.specs.Diagnostics.{Diagnostics}
use Rattle.spec_session.specs.Batch.{BatchAnswer}
use Rattle.spec_splitting.specs.Splitting.{Piece, Run, send, send_all, Given, Applies, AlikeBeside, FailsAtOperation, cursor_after}
use Rattle.spec_splitting.proofs.Theorem.{whole_and_pieces}
use Rattle.session_lifecycle.specs.Meaning.{diagnostics_mean}
use Rattle.session_lifecycle.specs.declared.state.ProjectionReplayCursor.{ProjectionReplayCursor}
use Rattle.session_lifecycle.specs.declared.state.ProjectionReplayCursor.TheVariants.{At}
use Rattle.session_lifecycle.specs.declared.diagnostics.ShellDiagnostics.{ShellDiagnostics}
use Rattle.local_projection_state.specs.Stores.{stored_state}
use Rattle.shell_player.specs.declared.session.ShellSession.{ShellSession}
use Rattle.session_steps.specs.declared.answers.ProjectionPatchApplicationDisposition.{ProjectionPatchApplicationDisposition}
use Rattle.session_steps.specs.declared.answers.ProjectionPatchApplicationDisposition.TheVariants.{Applied, NoChange, Rejected}
use Rattle.shell_player.specs.declared.batch.ProjectionPatchBatch.{ProjectionPatchBatch}
use Rattle.shell_player.specs.Holds.{Holds}
use Rattle.shell_player.specs.HoldsLaws.{cursor_to, session_to, one_struct}
use Rattle.session_steps.specs.Answers.{disposition_told, batch_answer_of}
use Rattle.shell_player.specs.Batches.{BatchBecame}
use Rattle.session_splitting.specs.Calls.{Sent, Calls, last_of}
use Rattle.session_splitting.specs.Claim.{WasApplied, with_progress, cursor_past, AllApplied, StopsAtRefusal, CallsInPieces}
use Rattle.session_splitting.proofs.CallsLaws.{answers_of, sent_is, FollowsRun, calls_follow}

-- ---- equal meanings are equal values

pub disposition_to : Disposition → ProjectionPatchApplicationDisposition
disposition_to step.applied = Applied
disposition_to step.no_change = NoChange
disposition_to step.rejected = Rejected

pub disposition_back : (d : ProjectionPatchApplicationDisposition) → disposition_to (disposition_told d) ≡ d
unfolding disposition_to disposition_told
disposition_back Applied = refl
disposition_back NoChange = refl
disposition_back Rejected = refl

was_applied : (b : ProjectionPatchBatch) → Applies (batch_answer_of b.result) → WasApplied b
unfolding disposition_to
was_applied b e = sym (disposition_back b.result.disposition) ∙ ap disposition_to e

was_rejected : (b : ProjectionPatchBatch) → (batch_answer_of b.result).disposition ≡ step.rejected → b.result.disposition ≡ Rejected
unfolding disposition_to
was_rejected b e = sym (disposition_back b.result.disposition) ∙ ap disposition_to e

pub diagnostics_same : (a b : ShellDiagnostics) → diagnostics_mean a ≡ diagnostics_mean b → a ≡ b
diagnostics_same a b e = λ i. record {
  stable_code = ap (λ (d : Diagnostics). d.code) e i;
  evaluation_stage = ap (λ (d : Diagnostics). d.stage) e i;
  logical_diagnostic_count = ap (λ (d : Diagnostics). d.logical) e i;
  emitted_diagnostic_count = ap (λ (d : Diagnostics). d.emitted) e i;
}

-- ---- lists of answers

all_applied : (bs : List ProjectionPatchBatch) → All Applies (answers_of bs) → All WasApplied bs
all_applied [] h = tt
all_applied (b ∷ bs) h = (was_applied b h.0, all_applied bs h.1)

-- where the answers end with one more, so do the batches
record Ending (bs : List ProjectionPatchBatch) (xs : List BatchAnswer) (y : BatchAnswer) : Type 0 where
  firsts : List ProjectionPatchBatch
  last : ProjectionPatchBatch
  parts : bs ≡ firsts ++ last ∷ []
  before : answers_of firsts ≡ xs
  end : batch_answer_of last.result ≡ y

head_or : BatchAnswer → List BatchAnswer → BatchAnswer
head_or d [] = d
head_or d (a ∷ l) = a

tail_of : List BatchAnswer → List BatchAnswer
tail_of [] = []
tail_of (a ∷ l) = l

ending : (bs : List ProjectionPatchBatch) (xs : List BatchAnswer) (y : BatchAnswer) → answers_of bs ≡ xs ++ y ∷ [] → Ending bs xs y
unfolding head_or tail_of
ending [] [] y e = absurd (let z : ◌≡◌ {A = ℕ} 0 1 = ap length e in omega arith)
ending [] (x ∷ xs) y e = absurd (let z : 0 ≡ suc (length (xs ++ y ∷ [])) = ap length e in omega arith)
ending (b ∷ []) [] y e = record { firsts = []; last = b; parts = refl; before = refl; end = ap (head_or y) e }
ending (b ∷ c ∷ bs) [] y e = absurd (let z : suc (suc (length (answers_of bs))) ≡ 1 = ap length e in omega arith)
ending (b ∷ bs) (x ∷ xs) y e = more (ending bs xs y (ap tail_of e))
  where
    more : Ending bs xs y → Ending (b ∷ bs) (x ∷ xs) y
    more r = record {
      firsts = b ∷ r.firsts;
      last = r.last;
      parts = ap (λ (l : List ProjectionPatchBatch). b ∷ l) r.parts;
      before = ap₂ (λ (a : BatchAnswer) (l : List BatchAnswer). a ∷ l) (ap (head_or y) e) r.before;
      end = r.end;
    }

-- ---- sessions

-- a session that is another one but for its cursor and its projection
same_session : {a b : Session} {c : Cursor} {p : Projection} → AlikeBeside a b → a.cursor ≡ c → a.projection ≡ p
    → a ≡ record { id = b.id; limits = b.limits; catalogue = b.catalogue; lifecycle = b.lifecycle; cursor = c; projection = p }
same_session h c p = λ i. record { id = h.id i; limits = h.limits i; catalogue = h.catalogue i; lifecycle = h.lifecycle i; cursor = c i; projection = p i }

past_told : (c : Cursor) (n k : ℕ) → cursor_to (cursor_after c n k) ≡ cursor_past (cursor_to c) n k
unfolding cursor_to cursor_after cursor_past
past_told c n zero = refl
past_told c n (suc k) = refl

-- ---- the claim

module _ (ed : Edition) (s : ShellSession) (m : Session) (holds : Holds s m) (n : ℕ) (whole : Piece) (pieces : List Piece) (given : Given m n whole pieces)
    (w : ProjectionPatchBatch) (sent : Sent ed s n whole w) (bs : List ProjectionPatchBatch) (calls : Calls ed s n pieces bs) where
  follows : FollowsRun s bs (send_all ed m n pieces)
  follows = calls_follow ed pieces bs s m n holds calls

  whole_is : BatchBecame w (send ed m n whole)
  whole_is = sent_is ed s m holds n whole w sent

  abbrev run : Run
  run = send_all ed m n pieces

  -- the pieces' calls end at the struct of the session that the sending ends at
  last_is : last_of s bs ≡ session_to run.last
  last_is = one_struct (last_of s bs) run.last follows.last

  counted : length bs ≡ length run.answers
  counted = sym (length-map bs (λ (b : ProjectionPatchBatch). batch_answer_of b.result)) ∙ ap length follows.answers

  applied : WasApplied w → AllApplied s n pieces w bs
  unfolding disposition_told state_of cursor_to
  applied e =
      let all = (whole_and_pieces ed m n whole pieces given).applies (sym (ap (λ (a : BatchAnswer). a.disposition) whole_is.answer) ∙ ap disposition_told e) in
      record {
        sent = counted ∙ all.sent;
        apply = all_applied bs (subst (All Applies) (sym follows.answers) all.apply);
        ended = last_is ∙ ap session_to (same_session all.beside all.cursor all.projection) ∙ ap (λ (t : ShellSession). with_progress t (At (n + (length pieces - 1))) t.local_projection) (sym (one_struct w.session (send ed m n whole).next whole_is.next));
      }

  stopped_at : (f : FailsAtOperation ed m n whole) → StopsAtRefusal s m n whole f.fault pieces w bs
  unfolding state_of
  stopped_at f =
      let stop = (whole_and_pieces ed m n whole pieces given).fails f in
      let r = ending bs stop.firsts stop.refusal (follows.answers ∙ stop.answers) in
      record {
        before = stop.before;
        piece = stop.piece;
        after = stop.after;
        parts = stop.parts;
        operation = stop.operation;
        firsts = r.firsts;
        refusal = r.last;
        answers = r.parts;
        sent = sym (length-map r.firsts (λ (b : ProjectionPatchBatch). batch_answer_of b.result)) ∙ ap length r.before ∙ stop.sent;
        apply = all_applied r.firsts (subst (All Applies) (sym r.before) stop.apply);
        refused = was_rejected r.last (ap (λ (a : BatchAnswer). a.disposition) r.end ∙ stop.refused);
        alike = diagnostics_same _ _ (ap (λ (a : BatchAnswer). a.diagnostics) r.end ∙ stop.alike ∙ sym (ap (λ (a : BatchAnswer). a.diagnostics) whole_is.answer));
        reached = run.last.projection;
        ran = stop.projection;
        ended = last_is
            ∙ ap session_to (same_session stop.beside stop.cursor refl)
            ∙ ap (λ (c : ProjectionReplayCursor). with_progress (session_to m) c (stored_state run.last.projection)) (past_told m.cursor n (length stop.before))
            ∙ ap (λ (t : ShellSession). with_progress t (cursor_past t.state.replay_cursor n (length stop.before)) (stored_state run.last.projection)) (sym (one_struct s m holds));
      }

  pub session_whole_and_pieces : CallsInPieces ed s m n whole pieces w bs
  session_whole_and_pieces = record { applies = applied; fails = stopped_at }
