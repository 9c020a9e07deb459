-- What a batch on lent slices answers and leaves is what the batch of the model answers and leaves.
use Rattle.std.specs.Prelude as code
use Rattle.std.specs.Prelude.{ℕ, ◌≤◌, ◌≡◌, refl, Bool, true, ◌&&◌, eqb}
use Rattle.std.proofs.Common.{sym, ◌∙◌, arith}
use Rattle.std.proofs.Math.Path.{ap, ap₂, subst}
use mathlib.Core.List.{List, [], ◌∷◌, flat_map}
use borrow.Author.Tests.{eq-eqb, ne_eqb, eqb-true}
use Rattle.std.proofs.Math.ListN.{length}
use Rattle.std.proofs.lemmas.List.{length-map}
use Rattle.spec_lists.proofs.ListLaws.{and_left}
use Rattle.spec_patch.specs.Patch.{Patch}
use Rattle.spec_patch.specs.Edition.{Edition}
use Rattle.spec_patch.specs.Read.{patches, read_set}
use Rattle.spec_projection.specs.Projection.{Projection}
use Rattle.spec_projection.specs.Apply.{Outcome, done, stopped, replay_steps, apply_steps}
use Rattle.spec_session.specs.Session.{Limits, Cursor, at, Session}
use Rattle.spec_session.specs.Diagnostics.{SessionRefusal, of_operation}
use Rattle.spec_session.specs.Lifecycle.{Disposition, applied, no_change, rejected, LocalState, state_of}
use Rattle.spec_session.specs.Batch.{BatchEnvelope, BatchAnswer, BatchStep, Check, pass, refuse, batch_checks, reject_batch, keep_session, advanced, apply_batch, candidate, commit, conclude_batch, batch}
use Rattle.spec_session.proofs.BatchLaws.{checks_passed}
use Rattle.session_lifecycle.specs.Meaning.{lifecycle_of, cursor_of, shell_state_of, limits_of}
use Rattle.session_lifecycle.specs.declared.state.ShellLocalState.{ShellLocalState}
use Rattle.session_lifecycle.specs.declared.state.ShellLifecycleLimits.{ShellLifecycleLimits}
use Rattle.local_projection_state.specs.Stores.{StoredTables, counts_of}
use Rattle.local_projection_state.specs.declared.ProjectionCounts.{ProjectionCounts}
use Rattle.panel_changes.specs.SetChanges.{tables_fit, change_counts_fit, StoredAfter, ChangeBecame, TablesKeptUnlessApplied}
use Rattle.panel_changes.specs.SetChangesLaws.{table_lengths_fit, stored_lengths, stored_counts}
use Rattle.panel_changes.specs.declared.SetRefusal.{SetRefusal}
use Rattle.panel_changes.specs.declared.SetRefusal.TheVariants as change
use Rattle.session_gates.specs.Gates.{erased, preflight_by}
use Rattle.session_gates.proofs.ErasedLaws.{erased_refused, erased_passed}
use Rattle.session_gates.specs.Seen.{Seen}
use Rattle.session_steps.specs.Answers.{disposition_told, batch_answer_of, rejected_at, answer_at, change_answer, Stopped, AnswerRow}
use Rattle.session_steps.specs.AnswersLaws.{applied_told}
use Rattle.session_steps.specs.declared.answers.ProjectionPatchApplicationDisposition.{ProjectionPatchApplicationDisposition}
use Rattle.session_steps.specs.declared.answers.ProjectionPatchApplicationDisposition.TheVariants.{Applied, NoChange, Rejected}
use Rattle.session_steps.specs.declared.answers.ProjectionPatchApplicationResult.{ProjectionPatchApplicationResult}
use Rattle.session_lent.specs.Head.{head_numbers, state_at, limits_at, counts_at, lent_head_of, moved_head}
use Rattle.session_lent.specs.HeadLaws.{state_told, limits_told, counts_told, lent_head_long, moved_told}
use Rattle.session_lent.specs.LentSession.{LentSession, LentRoom, anchors_shaped, half_shaped}
use Rattle.session_lent.specs.CreationLaws.{anchors_agree, few_anchors_fit}
use Rattle.session_lent.specs.Batches.{SameHalf, KeptUnlessChanged, NextIn, LentStep, ShapedCall}

-- ---- slices that hold a session have the shape of one

pub held_half : (head nodes pairs collections b a e l : List ℕ) (m : Session) → LentSession head nodes pairs collections b a e l m → half_shaped head (length b) (length a) (length e) ≡ true
unfolding half_shaped
held_half head nodes pairs collections b a e l m h =
    let counts : change_counts_fit (counts_at head) ≡ true = ap change_counts_fit (counts_told head m h.head_is) ∙ stored_counts h.projection in
    rw (eq-eqb (length head) head_numbers (lent_head_long head m h.head_is), table_lengths_fit b a e (stored_lengths h.projection), counts)

pub held_anchors : (head nodes pairs collections b a e l : List ℕ) (m : Session) → LentSession head nodes pairs collections b a e l m → anchors_shaped (length nodes) (length pairs) (length collections) ≡ true
held_anchors head nodes pairs collections b a e l m h = anchors_agree m.catalogue nodes pairs collections h.anchors_are ∙ few_anchors_fit m.catalogue nodes pairs collections h.anchors_are h.few

pub room_half : (head b a e l : List ℕ) → LentRoom head b a e l → half_shaped head (length b) (length a) (length e) ≡ true
unfolding half_shaped
room_half head b a e l r = rw (eq-eqb (length head) head_numbers r.head_long, table_lengths_fit b a e r.tables.lengths, r.tables.few)

pub half_head : (head : List ℕ) (b a e : ℕ) → half_shaped head b a e ≡ true → length head ≡ head_numbers
unfolding half_shaped
half_head head b a e h = eqb-true (length head) head_numbers (and_left (eqb (length head) head_numbers) (tables_fit b a e && change_counts_fit (counts_at head)) h)

-- the tables, with the counts that the head tells
pub held_tables : {head nodes pairs collections b a e l : List ℕ} (m : Session) → LentSession head nodes pairs collections b a e l m → StoredTables (counts_at head) b a e m.projection
held_tables {head = head} {b = b} {a = a} {e = e} m h = subst (λ (k : ProjectionCounts). StoredTables k b a e m.projection) (sym (counts_told head m h.head_is)) h.projection

-- ---- the counts of tables that store a projection are its counts

pub counts_stored : (n : ProjectionCounts) (b a e : List ℕ) (p : Projection) → StoredTables n b a e p → n ≡ counts_of p
counts_stored n b a e p s =
    let x : n.bindings ≡ length p.bindings = sym s.bindings.rows.counted ∙ length-map p.bindings _ in
    let y : n.availabilities ≡ length p.availabilities = sym s.availabilities.rows.counted ∙ length-map p.availabilities _ in
    let z : n.entries ≡ length p.entries = sym s.entries.rows.counted ∙ length-map p.entries _ in
    λ i. record { bindings = x i; availabilities = y i; entries = z i }

-- ---- the next session, by the disposition

module _ (m next : Session) (head nodes pairs collections b a e l : List ℕ) where
  next_kept : (d : ProjectionPatchApplicationDisposition) → (disposition_told d ≡ applied → ⊥) → next ≡ m → NextIn d m next head nodes pairs collections b a e l
  unfolding disposition_told
  next_kept Applied not same = absurd (not refl)
  next_kept NoChange not same = same
  next_kept Rejected not same = same

  next_applied : (d : ProjectionPatchApplicationDisposition) → d ≡ Applied → LentSession head nodes pairs collections b a e l next → NextIn d m next head nodes pairs collections b a e l
  next_applied d is held = subst (λ k. NextIn k m next head nodes pairs collections b a e l) (sym is) held

rejected_not : (a : BatchAnswer) (cap : ℕ) (f : SessionRefusal) (n : ℕ) (c : Cursor) → a ≡ rejected_at cap f n c → a.disposition ≡ applied → ⊥
rejected_not a cap f n c is k = let z : rejected ≡ applied = sym (ap (λ (x : BatchAnswer). x.disposition) is) ∙ k in absurd (let y : ◌≡◌ {A = ℕ} 0 1 = cc in omega arith)

unchanged_not : (a : BatchAnswer) (c : Cursor) → a ≡ answer_at no_change c → a.disposition ≡ applied → ⊥
unchanged_not a c is k = let z : no_change ≡ applied = sym (ap (λ (x : BatchAnswer). x.disposition) is) ∙ k in absurd (let y : ◌≡◌ {A = ℕ} 0 1 = cc in omega arith)

-- ---- a set that is not applied leaves the other half

pub kept_change : (u : code.Result ProjectionCounts SetRefusal) (h b a e l h' b' a' e' l' : List ℕ) (cap n : ℕ) (c : Cursor) (r : ProjectionPatchApplicationResult) → KeptUnlessChanged u h b a e l h' b' a' e' l' → batch_answer_of r ≡ change_answer cap c n u
    → (r.disposition ≡ Applied → ⊥) → SameHalf h b a e l h' b' a' e' l'
unfolding change_answer
kept_change (code.Ok k) h b a e l h' b' a' e' l' cap n c r kept is not = absurd (not (applied_told r.disposition (ap (λ (x : BatchAnswer). x.disposition) is)))
kept_change (code.Err f) h b a e l h' b' a' e' l' cap n c r kept is not = kept

-- ---- what came of a set, told with the head

pub stopped_became : (P Q : ProjectionCounts → Projection → Type 0) (u : code.Result ProjectionCounts SetRefusal) (x : Outcome) → Stopped u → ChangeBecame P u x → ChangeBecame Q u x
stopped_became P Q (code.Ok n) x stop k = absurd stop
stopped_became P Q (code.Err (change.Operation f)) (done q) stop k = k
stopped_became P Q (code.Err (change.Operation f)) (stopped g) stop k = k
stopped_became P Q (code.Err (change.Unreadable f)) x stop k = k
stopped_became P Q (code.Err change.BadTables) x stop k = k

pub stopped_kept : (u : code.Result ProjectionCounts SetRefusal) (to b a e l b' a' e' l' : List ℕ) → Stopped u → TablesKeptUnlessApplied u b a e l b' a' e' l' → KeptUnlessChanged u to b a e l to b' a' e' l'
stopped_kept (code.Ok n) to b a e l b' a' e' l' stop k = absurd stop
stopped_kept (code.Err f) to b a e l b' a' e' l' stop k = (refl, k)

-- a set that was applied, and the head that was written then
pub applied_became : (P : ProjectionCounts → Projection → Type 0) (H : ProjectionCounts → Type 0) (u : code.Result ProjectionCounts SetRefusal) (n : ProjectionCounts) (x : Outcome) → u ≡ code.Ok n → H n → ChangeBecame P u x → ChangeBecame (λ k q. H k × P k q) (code.Ok n) x
applied_became P H u n x is moved became = go x (subst (λ w. ChangeBecame P w x) is became)
  where
    go : (y : Outcome) → ChangeBecame P (code.Ok n) y → ChangeBecame (λ k q. H k × P k q) (code.Ok n) y
    go (done q) k = (moved, k)
    go (stopped f) k = k

-- ---- a set that passes the steps before it is applied is readable

pub passed_reads : (ed : Edition) (m : Session) (v : BatchEnvelope) (declared : ℕ) (set : List ℕ) → pass tt ≡ erased (batch_checks ed m v declared set) → (ps : List Patch) × (read_set ed set ≡ patches ps)
passed_reads ed m v declared set h = let p = erased_passed (batch_checks ed m v declared set) h in (p.0, (checks_passed ed m v declared set p.0 p.1).reads)

-- ---- the steps on what the head tells

module _ (head nodes pairs collections b a e : List ℕ) (limits : ShellLifecycleLimits) (state : ShellLocalState) (limits_are : limits_of limits ≡ limits_at head) (state-is : shell_state_of state ≡ state_at head) where
  abbrev cap : ℕ
  cap = limits.max_diagnostics_per_transition

  abbrev cursor : Cursor
  cursor = cursor_of state.replay_cursor

  cap_is : cap ≡ (limits_at head).diagnostics
  cap_is = ap (λ (k : Limits). k.diagnostics) limits_are

  cursor_is : cursor ≡ (state_at head).cursor
  cursor_is = ap (λ (t : LocalState). t.cursor) state-is

  -- the row and the first three steps, as the head tells them
  pub row_told : (n : ℕ) (x : BatchAnswer) → AnswerRow cap cursor n x → AnswerRow (limits_at head).diagnostics (state_at head).cursor n x
  row_told n x row = subst (λ k. AnswerRow k (state_at head).cursor n x) cap_is (subst (λ c. AnswerRow cap c n x) cursor_is row)

  pub preflight_told : (v : BatchEnvelope) (x : BatchAnswer)
      → ((f : SessionRefusal) (n : ℕ) → preflight_by state.session_id.0 (limits_of limits) (lifecycle_of state.lifecycle) v ≡ refuse f n → x ≡ rejected_at cap f n cursor)
      → (f : SessionRefusal) (n : ℕ) → preflight_by (state_at head).id (limits_at head) (state_at head).lifecycle v ≡ refuse f n → x ≡ rejected_at (limits_at head).diagnostics f n (state_at head).cursor
  preflight_told v x tells f n is =
      let same = ap₂ (λ (k : Limits) (t : LocalState). preflight_by t.id k t.lifecycle v) limits_are state-is in
      tells f n (same ∙ is) ∙ ap₂ (λ k c. rejected_at k f n c) cap_is cursor_is

  module _ (m : Session) (l : List ℕ) (holds : LentSession head nodes pairs collections b a e l m) where
    limits_of_lem : limits_of limits ≡ m.limits
    limits_of_lem = limits_are ∙ limits_told head m holds.head_is

    state_of_lem : shell_state_of state ≡ state_of m
    state_of_lem = state-is ∙ state_told head m holds.head_is

    -- a batch sees the session that is lent
    pub lent_seen : Seen m state.session_id.0 limits state nodes pairs collections
    unfolding state_of
    lent_seen = record {
      id_is = ap (λ (t : LocalState). t.id) state_of_lem;
      limits_are = limits_of_lem;
      lifecycle_is = ap (λ (t : LocalState). t.lifecycle) state_of_lem;
      cursor_is = ap (λ (t : LocalState). t.cursor) state_of_lem;
      anchors_are = holds.anchors_are;
    }

    module _ (h' b' a' e' l' : List ℕ) (r : ProjectionPatchApplicationResult) where
      abbrev StepHere : BatchStep → Type 0
      StepHere = LentStep r m h' nodes pairs collections b' a' e' l'

      rejects : (f : SessionRefusal) (n : ℕ) → batch_answer_of r ≡ rejected_at cap f n cursor → StepHere (reject_batch m f n)
      unfolding reject_batch
      rejects f n h = record {
        answer = h ∙ ap₂ (λ (k : Limits) (c : Cursor). rejected_at k.diagnostics f n c) limits_of_lem lent_seen.cursor_is;
        next = next_kept m m h' nodes pairs collections b' a' e' l' r.disposition (rejected_not (batch_answer_of r) cap f n cursor h) refl;
      }

      module _ (v : BatchEnvelope) (ps : List Patch) where
        -- without patches nothing changes
        pub lent_commits_none : batch_answer_of r ≡ answer_at no_change cursor → v.patches ≡ 0 → v.patches ≡ length ps → StepHere (commit m v (candidate m ps))
        unfolding commit candidate replay_steps apply_steps flat_map keep_session
        lent_commits_none h none count = go ps count
          where
            go : (qs : List Patch) → v.patches ≡ length qs → StepHere (commit m v (candidate m qs))
            go [] c = rw (eq-eqb v.patches 0 none) (
                record {
                  answer = h ∙ ap (λ (k : Cursor). answer_at no_change k) lent_seen.cursor_is;
                  next = next_kept m m h' nodes pairs collections b' a' e' l' r.disposition (unchanged_not (batch_answer_of r) cursor h) refl;
                }
                )
            go (q ∷ qs) c = absurd (omega arith)

        -- what came of the operations
        pub commits : (u : code.Result ProjectionCounts SetRefusal) → (v.patches ≡ 0 → ⊥) → ChangeBecame (λ n q. (h' ≡ moved_head head v.sequence n) × StoredAfter n b' a' e' l' q) u (candidate m ps) → batch_answer_of r ≡ change_answer cap cursor v.sequence u → StepHere (commit m v (candidate m ps))
        unfolding commit apply_batch advanced change_answer
        commits u some became h = go u (candidate m ps) became h
          where
            go : (w : code.Result ProjectionCounts SetRefusal) (x : Outcome) → ChangeBecame (λ n q. (h' ≡ moved_head head v.sequence n) × StoredAfter n b' a' e' l' q) w x → batch_answer_of r ≡ change_answer cap cursor v.sequence w → StepHere (commit m v x)
            go (code.Ok n) (done q) stored h =
                let counted = counts_stored n b' a' e' q stored.1.0 in
                rw (ne_eqb v.patches 0 some) (
                record {
                  answer = h;
                  next = next_applied m (advanced m v.sequence q) h' nodes pairs collections b' a' e' l' r.disposition (applied_told r.disposition (ap (λ (k : BatchAnswer). k.disposition) h)) (
                      record {
                        head_is = stored.0 ∙ moved_told head m holds.head_is v.sequence n q counted;
                        anchors_are = holds.anchors_are;
                        few = holds.few;
                        projection = subst (λ (k : ProjectionCounts). StoredTables k b' a' e' q) counted stored.1.0;
                        collections_told = stored.1.1;
                      }
                      );
                }
                )
            go (code.Ok n) (stopped g) stored h = absurd stored
            go (code.Err (change.Operation f)) (done q) stored h = absurd stored
            go (code.Err (change.Operation f)) (stopped g) stored h = rejects (of_operation g) 1 (h ∙ ap (λ k. rejected_at cap (of_operation k) 1 cursor) stored)
            go (code.Err (change.Unreadable f)) x stored h = absurd stored
            go (code.Err change.BadTables) x stored h = absurd stored

      module _ (ed : Edition) (v : BatchEnvelope) (declared : ℕ) (set : List ℕ) where
        pub lent_batch_rejects : (f : SessionRefusal) (n : ℕ) → refuse f n ≡ erased (batch_checks ed m v declared set) → batch_answer_of r ≡ rejected_at cap f n cursor → StepHere (batch ed m v declared set)
        unfolding batch conclude_batch
        lent_batch_rejects f n h x = subst (λ (c : Check (List Patch)). StepHere (conclude_batch m v c)) (sym (erased_refused (batch_checks ed m v declared set) f n h)) (rejects f n x)

        pub lent_batch_commits : pass tt ≡ erased (batch_checks ed m v declared set) → ((ps : List Patch) → read_set ed set ≡ patches ps → v.patches ≡ length ps → StepHere (commit m v (candidate m ps))) → StepHere (batch ed m v declared set)
        unfolding batch conclude_batch
        lent_batch_commits h f =
            let p = erased_passed (batch_checks ed m v declared set) h in
            let c = checks_passed ed m v declared set p.0 p.1 in
            let count = eqb-true v.patches (length p.0) (and_left (eqb v.patches (length p.0)) _ c.counts) in
            subst (λ (k : Check (List Patch)). StepHere (conclude_batch m v k)) (sym p.1) (f p.0 c.reads count)
