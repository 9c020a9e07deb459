-- `ShellSession::apply_projection_patch_batch` meets its contract: steps 1 to 8, then step 9, by what came of the operations.
-- ---- where the set was applied
use Prim.Native.Nat.{ℕ}
use mathlib.Core.Path.{◌≡◌, refl, sym, ap, subst, ◌∙◌}
use mathlib.Core.Bool.{false≢true}
use mathlib.Core.List.{List}
use borrow.Author.Rules.{rules}
use borrow.Author.Tests.{eq-eqb, eqb-true}
use Rattle.spec_patch.specs.Patch.{Patch}
use Rattle.spec_patch.specs.Read.{patches, read_set}
use Rattle.spec_session.specs.Session.{at, Session}
use Rattle.spec_session.specs.Lifecycle.{applied}
use Rattle.spec_session.specs.Batch.{candidate, commit}
use Rattle.spec_session.proofs.BatchLaws.{never_passes}
use Rattle.bytes_records.specs.Moves.{zeros}
use Rattle.panel_rows.specs.Rows.{binding_bytes, availability_bytes, entry_bytes, length_bytes}
use Rattle.local_projection_state.specs.declared.ProjectionCounts.{ProjectionCounts}
use Rattle.panel_changes.specs.SetChanges.{ReadyTables, StoredAfter, ChangeBecame}
use Rattle.panel_changes.specs.SetChangesLaws.{zeros_ready}
use Rattle.std.specs.Prelude.{Result, Ok}
use Rattle.panel_changes.specs.declared.SetRefusal.{SetRefusal}
use Rattle.session_gates.specs.Gates.{gate_of, check_counted, batch_envelope_of}
use Rattle.session_gates.specs.declared.gates.OrderedProjectionPatchBatchEnvelope.{OrderedProjectionPatchBatchEnvelope}
use Rattle.session_steps.specs.declared.answers.ProjectionPatchApplicationResult.{ProjectionPatchApplicationResult}
use Rattle.session_steps.specs.Answers.{batch_answer_of, answer_at, change_answer, rejected_row, unchanged_row, applied_row}
use Rattle.session_steps.proofs.Stops.{refused_stopped}
use Rattle.session_steps.specs.AnswersLaws.{same_rejection, change_row}
use Rattle.spec_patch.specs.Edition.{Edition}
use Rattle.projection_patch.specs.Meaning.{edition_of}
use Rattle.shell_player.specs.declared.session.ShellSession.{ShellSession}
use Rattle.shell_player.specs.declared.batch.ProjectionPatchBatch.{ProjectionPatchBatch}
use Rattle.shell_player.specs.Holds.{Holds}
use Rattle.shell_player.specs.Batches.{batch_of, BatchBecame, BatchCall, AnyBatchCall}
use Rattle.shell_player.specs.CommitLaws.{kept_applied, struct_seen, commits_none, commits_stopped, commits_applied, batch_rejects, batch_commits}
use Rattle.shell_player.proofs.session.ShellSession.apply_projection_patch_batch.Goals as goal
use Rattle.shell_player.proofs.session.ShellSession.apply_projection_patch_batch.Goals.{After-apply_set-change, After-with_tables-session}

-- the tables that the call wrote
abbrev Tables : After-apply_set-change → Result ProjectionCounts SetRefusal → (m : Session) (ps : List Patch) → Type 0
Tables c r m ps = ChangeBecame (λ n q. StoredAfter n c.apply_set-change.new.to_bindings c.apply_set-change.new.to_availability c.apply_set-change.new.to_entries c.apply_set-change.new.to_lengths q) r (candidate m ps)

-- what came of the operations
became : (c : After-apply_set-change) → (m : Session) (ps : List Patch) → Holds c.args.self m → read_set (edition_of c.args.edition) c.args.set.now ≡ patches ps → Tables c c.apply_set-change.result m ps
unfolding candidate
became c m ps h reads = c.apply_set-change.ensures.changed m.projection ps h.projection.tables reads (subst (λ (u : ProjectionCounts). ReadyTables u (zeros binding_bytes) (zeros availability_bytes) (zeros entry_bytes) (zeros length_bytes)) (sym c.none_used-used.ensures) zeros_ready)

-- what is told of a session and an answer is told of the batch that is made of them
told : {s : ShellSession} {e : OrderedProjectionPatchBatchEnvelope} {declared : ℕ} {set : List ℕ} {ed : Edition} (session : ShellSession) (result : ProjectionPatchApplicationResult) {r : ProjectionPatchBatch} → r ≡ batch_of session result
    → BatchCall s e declared set ed (batch_of session result) × AnyBatchCall s e (batch_of session result) → BatchCall s e declared set ed r × AnyBatchCall s e r
told {s = s} {e = e} {declared = declared} {set = set} {ed = ed} session result is h = subst (λ x. BatchCall s e declared set ed x × AnyBatchCall s e x) (sym is) h

answered : (c : After-with_tables-session) → batch_answer_of c.concluded-result.result ≡ answer_at applied (at c.args.envelope.sequence_no)
unfolding change_answer
answered c = c.concluded-result.ensures ∙ ap (change_answer _ _ _) c.in-Ok.is

-- the session that was made of the tables
handed : (c : After-with_tables-session) → (m : Session) (ps : List Patch) → Holds c.args.self m → read_set (edition_of c.args.edition) c.args.set.now ≡ patches ps → (c.args.envelope.patch_count ≡ 0 → ⊥)
    → BatchBecame (batch_of c.with_tables-session.result c.concluded-result.result) (commit m (batch_envelope_of c.args.envelope) (candidate m ps))
handed c m ps h reads some =
    let stored : Tables (goal.at.After-with_tables-session c).After-apply_set-change (Ok c.in-Ok.n) m ps = subst (λ r. Tables (goal.at.After-with_tables-session c).After-apply_set-change r m ps) c.in-Ok.is (became (goal.at.After-with_tables-session c).After-apply_set-change m ps h reads) in
    subst (λ (s : ShellSession). BatchBecame (batch_of s c.concluded-result.result) (commit m (batch_envelope_of c.args.envelope) (candidate m ps))) (sym c.with_tables-session.ensures)
    (commits_applied c.args.self m h (batch_envelope_of c.args.envelope) ps c.in-Ok.n _ _ _ _ c.advanced-moved.result c.concluded-result.result some stored c.advanced-moved.ensures (answered c))

pub returns-in-Err : goal.returns-in-Err
unfolding gate_of check_counted
returns-in-Err c =
    let all = let gate = ap gate_of (sym c.in-Err.is) in
    told _ _ c.batch_of.ensures (
      record { became = λ m h. batch_rejects _ m h _ _ _ _ _ _ _ (gate ∙ c.check_session-gate.ensures.checked m (struct_seen _ m h)) c.rejected.ensures },
      record {
        kept = λ n. refl;
        row = rejected_row _ _ (ap check_counted gate ∙ c.check_session-gate.ensures.whatever) c.rejected.ensures;
        preflight = λ f n h. c.rejected.ensures ∙ same_rejection _ _ (gate ∙ c.check_session-gate.ensures.preflight f n h);
      },
    ) in record { holding = all.0; whatever = all.1 }

pub returns-then-is_empty : goal.returns-then-is_empty
unfolding gate_of
returns-then-is_empty c =
    let all = let gate = ap gate_of (sym c.in_default.is) in
    told _ _ c.batch_of-then-is_empty.ensures (
      record { became = λ m h. batch_commits _ m h _ _ _ _ _ (gate ∙ c.check_session-gate.ensures.checked m (struct_seen _ m h)) (λ ps reads count. commits_none _ m h _ ps _ c.unchanged.ensures (eqb-true _ 0 (sym c.is_empty.ensures ∙ c.if-is_empty.true)) count) },
      record {
        kept = λ n. refl;
        row = unchanged_row c.unchanged.ensures;
        preflight = λ f n h. never_passes (sym (gate ∙ c.check_session-gate.ensures.preflight f n h));
      },
    ) in record { holding = all.0; whatever = all.1 }

pub returns-in_default-change : goal.returns-in_default-change
unfolding gate_of
returns-in_default-change c =
    let all = let gate = ap gate_of (sym c.in_default.is) in
    told _ _ c.batch_of-in_default-change.ensures (
      record { became = λ m h. batch_commits _ m h _ _ _ _ _ (gate ∙ c.check_session-gate.ensures.checked m (struct_seen _ m h)) (λ ps reads count. commits_stopped _ m h _ ps c.apply_set-change.result _ _ (refused_stopped c.apply_set-change.result c.in_default-change.is) (became (goal.at.returns-in_default-change c).After-apply_set-change m ps h reads) c.concluded-result.ensures) },
      record {
        kept = λ n. refl;
        row = change_row _ _ _ _ c.apply_set-change.result c.concluded-result.ensures;
        preflight = λ f n h. never_passes (sym (gate ∙ c.check_session-gate.ensures.preflight f n h));
      },
    ) in record { holding = all.0; whatever = all.1 }

pub returns : goal.returns
unfolding gate_of
returns c =
    let all = let gate = ap gate_of (sym c.in_default.is) in
    told _ _ c.batch_of-2.ensures (
      record {
        became = λ m h. batch_commits _ m h _ _ _ _ _ (gate ∙ c.check_session-gate.ensures.checked m (struct_seen _ m h)) (λ ps reads count. handed (goal.at.returns c).After-with_tables-session m ps h reads (λ none. false≢true (sym (sym c.is_empty.ensures ∙ c.if-is_empty.false) ∙ eq-eqb _ 0 none)));
      },
      record {
        kept = kept_applied _ _ _ (answered (goal.at.returns c).After-with_tables-session);
        row = applied_row (answered (goal.at.returns c).After-with_tables-session);
        preflight = λ f n h. never_passes (sym (gate ∙ c.check_session-gate.ensures.preflight f n h));
      },
    ) in record { holding = all.0; whatever = all.1 }
