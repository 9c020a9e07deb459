-- What a batch hands back is what the batch of the model hands back.
use Rattle.std.specs.Prelude as code
use Rattle.std.specs.Prelude.{ℕ, ◌≡◌, eqb}
use Rattle.std.proofs.Common.{sym, ◌∙◌, arith}
use Rattle.std.proofs.Math.Path.{ap, ap₂, subst}
use mathlib.Core.List.{List, [], ◌∷◌, flat_map}
use borrow.Author.Tests.{eq-eqb, ne_eqb, eqb-true}
use Rattle.std.proofs.Math.ListN.{length}
use Rattle.spec_lists.proofs.ListLaws.{and_left}
use Rattle.spec_patch.specs.Patch.{Patch}
use Rattle.spec_patch.specs.Edition.{Edition}
use Rattle.spec_patch.specs.Read.{patches, read_set}
use Rattle.spec_projection.specs.Projection.{Projection}
use Rattle.spec_projection.specs.Apply.{Outcome, done, stopped, replay_steps, apply_steps}
use Rattle.spec_session.specs.Session.{Limits, Cursor, at, Session}
use Rattle.spec_session.specs.Diagnostics.{SessionRefusal, of_operation}
use Rattle.spec_session.specs.Lifecycle.{applied, no_change, LocalState, state_of}
use Rattle.spec_session.specs.Batch.{BatchEnvelope, BatchAnswer, Check, pass, refuse, batch_checks, reject_batch, keep_session, advanced, apply_batch, candidate, commit, conclude_batch, batch}
use Rattle.spec_session.proofs.BatchLaws.{checks_passed}
use Rattle.session_lifecycle.specs.Meaning.{cursor_of, shell_state_of}
use Rattle.session_lifecycle.specs.declared.state.ShellLocalState.{ShellLocalState}
use Rattle.active_projection_target_catalog.specs.Catalog.{catalogue_of}
use Rattle.active_projection_target_catalog.proofs.CatalogLaws.{catalogue_back}
use Rattle.local_projection_state.specs.declared.ProjectionCounts.{ProjectionCounts}
use Rattle.panel_changes.specs.SetChanges.{StoredAfter, ChangeBecame}
use Rattle.panel_changes.specs.declared.SetRefusal.{SetRefusal}
use Rattle.panel_changes.specs.declared.SetRefusal.TheVariants as change
use Rattle.session_gates.specs.Gates.{erased}
use Rattle.session_gates.proofs.ErasedLaws.{erased_refused, erased_passed}
use Rattle.shell_player.specs.declared.session.ShellSession.{ShellSession}
use Rattle.session_steps.specs.declared.answers.ProjectionPatchApplicationResult.{ProjectionPatchApplicationResult}
use Rattle.shell_player.specs.declared.batch.ProjectionPatchBatch.{ProjectionPatchBatch}
use Rattle.shell_player.specs.Holds.{Holds}
use Rattle.session_steps.specs.Answers.{batch_answer_of, rejected_at, answer_at, change_answer, Stopped}
use Rattle.session_steps.specs.AnswersLaws.{applied_told}
use Rattle.session_steps.specs.Checks.{SeenSession}
use Rattle.session_steps.specs.States.{moved_to}
use Rattle.shell_player.specs.Batches.{session_of, BatchBecame, KeptUnlessApplied}

-- ---- what is handed back unless the batch is applied

pub kept_applied : (s : ShellSession) (r : ProjectionPatchBatch) (c : Cursor) → batch_answer_of r.result ≡ answer_at applied c → KeptUnlessApplied s r
kept_applied s r c e not = absurd (not (applied_told r.result.disposition (ap (λ (a : BatchAnswer). a.disposition) e)))

-- ---- what the batch of the model hands back

module _ (s : ShellSession) (m : Session) (holds : Holds s m) where
  -- a batch sees the session that the struct stores
  pub struct_seen : SeenSession s.context s.state m
  unfolding state_of
  struct_seen = record {
    id_is = holds.id;
    limits_are = holds.limits;
    lifecycle_is = ap (λ (t : LocalState). t.lifecycle) holds.state;
    cursor_is = ap (λ (t : LocalState). t.cursor) holds.state;
    catalogue_is = ap catalogue_of holds.catalogue ∙ catalogue_back m.catalogue holds.few;
  }

  abbrev cap : ℕ
  cap = s.context.limits.max_diagnostics_per_transition

  abbrev cursor : Cursor
  cursor = cursor_of s.state.replay_cursor

  pub rejects : (r : ProjectionPatchApplicationResult) (f : SessionRefusal) (n : ℕ) → batch_answer_of r ≡ rejected_at cap f n cursor → BatchBecame (record { session = s; result = r }) (reject_batch m f n)
  unfolding reject_batch
  rejects r f n h = record { answer = h ∙ ap₂ (λ (k : Limits) (c : Cursor). rejected_at k.diagnostics f n c) holds.limits struct_seen.cursor_is; next = holds }

  module _ (e : BatchEnvelope) (ps : List Patch) where
    -- without patches nothing changes
    pub commits_none : (r : ProjectionPatchApplicationResult) → batch_answer_of r ≡ answer_at no_change cursor → e.patches ≡ 0 → e.patches ≡ length ps → BatchBecame (record { session = s; result = r }) (commit m e (candidate m ps))
    unfolding commit candidate replay_steps apply_steps flat_map keep_session
    commits_none r h none count = go ps count
      where
        go : (qs : List Patch) → e.patches ≡ length qs → BatchBecame (record { session = s; result = r }) (commit m e (candidate m qs))
        go [] c = rw (eq-eqb e.patches 0 none) (record { answer = h ∙ ap (λ (k : Cursor). answer_at no_change k) struct_seen.cursor_is; next = holds })
        go (q ∷ qs) c = absurd (omega arith)

    -- a set that was not applied hands the session back
    pub commits_stopped : (became : code.Result ProjectionCounts SetRefusal) (Next : ProjectionCounts → Projection → Type 0) (r : ProjectionPatchApplicationResult) → Stopped became → ChangeBecame Next became (candidate m ps) → batch_answer_of r ≡ change_answer cap cursor e.sequence became
        → BatchBecame (record { session = s; result = r }) (commit m e (candidate m ps))
    unfolding commit change_answer
    commits_stopped became Next r stop is h = go became (candidate m ps) stop is h
      where
        go : (u : code.Result ProjectionCounts SetRefusal) (x : Outcome) → Stopped u → ChangeBecame Next u x → batch_answer_of r ≡ change_answer cap cursor e.sequence u → BatchBecame (record { session = s; result = r }) (commit m e x)
        go (code.Ok n) x stop b h = absurd stop
        go (code.Err (change.Operation f)) (done q) stop b h = absurd b
        go (code.Err (change.Operation f)) (stopped g) stop b h = rejects r (of_operation g) 1 (h ∙ ap (λ k. rejected_at cap (of_operation k) 1 cursor) b)
        go (code.Err (change.Unreadable f)) x stop b h = absurd b
        go (code.Err change.BadTables) x stop b h = absurd b

    -- a set that was applied stores what the tables hold
    pub commits_applied : (n : ProjectionCounts) (b a y l : List ℕ) (t : ShellLocalState) (r : ProjectionPatchApplicationResult) → (e.patches ≡ 0 → ⊥) → ChangeBecame (λ k q. StoredAfter k b a y l q) (code.Ok n) (candidate m ps)
        → shell_state_of t ≡ moved_to (shell_state_of s.state) e.sequence → batch_answer_of r ≡ answer_at applied (at e.sequence) → BatchBecame (record { session = session_of s.context t n b a y l; result = r }) (commit m e (candidate m ps))
    unfolding commit apply_batch advanced state_of
    commits_applied n b a y l t r some became moved h = go (candidate m ps) became
      where
        go : (x : Outcome) → ChangeBecame (λ k q. StoredAfter k b a y l q) (code.Ok n) x → BatchBecame (record { session = session_of s.context t n b a y l; result = r }) (commit m e x)
        go (done q) stored = rw (ne_eqb e.patches 0 some) (
            record {
              answer = h;
              next = record {
                id = holds.id;
                limits = holds.limits;
                catalogue = holds.catalogue;
                few = holds.few;
                state = moved ∙ ap (λ (k : LocalState). moved_to k e.sequence) holds.state;
                projection = record { tables = stored.0; lengths = stored.1 };
              };
            }
            )
        go (stopped g) stored = absurd stored

  module _ (ed : Edition) (e : BatchEnvelope) (declared : ℕ) (set : List ℕ) where
    pub batch_rejects : (r : ProjectionPatchApplicationResult) (f : SessionRefusal) (n : ℕ) → refuse f n ≡ erased (batch_checks ed m e declared set) → batch_answer_of r ≡ rejected_at cap f n cursor
        → BatchBecame (record { session = s; result = r }) (batch ed m e declared set)
    unfolding batch conclude_batch
    batch_rejects r f n h a = subst (λ (c : Check (List Patch)). BatchBecame (record { session = s; result = r }) (conclude_batch m e c)) (sym (erased_refused (batch_checks ed m e declared set) f n h)) (rejects r f n a)

    pub batch_commits : (b : ProjectionPatchBatch) → pass tt ≡ erased (batch_checks ed m e declared set)
        → ((ps : List Patch) → read_set ed set ≡ patches ps → e.patches ≡ length ps → BatchBecame b (commit m e (candidate m ps))) → BatchBecame b (batch ed m e declared set)
    unfolding batch conclude_batch
    batch_commits b h f =
        let p = erased_passed (batch_checks ed m e declared set) h in
        let c = checks_passed ed m e declared set p.0 p.1 in
        let count = eqb-true e.patches (length p.0) (and_left (eqb e.patches (length p.0)) _ c.counts) in
        subst (λ (k : Check (List Patch)). BatchBecame b (conclude_batch m e k)) (sym p.1) (f p.0 c.reads count)
