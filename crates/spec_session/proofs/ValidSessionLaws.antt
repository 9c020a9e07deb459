-- The invariant holds at creation and after every lifecycle and batch step; and a lifecycle step that is rejected leaves the session as it
-- was.
use Rattle.std.specs.Prelude.{ℕ, ◌≡◌, refl, Bool, true, false, List, leb, eqb, length, if◌then◌else◌}
use Rattle.std.proofs.Common.{sym, ap, subst, arith, leb-true}
use Rattle.std.proofs.Math.Option.{Option, none, some}
use Rattle.spec_lists.specs.Lists.{All}
use Rattle.spec_lists.proofs.ListLaws.{and_left, and_right}
use Rattle.spec_lists.specs.Bytes.{Bytes}
use Rattle.spec_patch.specs.Sizes.{anchors}
use Rattle.spec_patch.specs.Patch.{Patch}
use Rattle.spec_patch.specs.Edition.{Edition}
use Rattle.spec_patch.specs.Fits.{U64, FitsPatch}
use Rattle.spec_patch.proofs.SetLaws.{was_encoded}
use Rattle.spec_projection.specs.Projection.{Projection}
use Rattle.spec_projection.specs.Apply.{Outcome, done, stopped, apply_steps, replay_steps}
use Rattle.spec_projection.specs.Valid.{Valid}
use Rattle.spec_projection.proofs.ValidLaws.{empty_valid, apply_steps_valid, replay_steps_fit}
use Rattle.spec_session.specs.Session.{Lifecycle, Limits, Catalogue, Session, too_many_anchors, made, refused, new_session, anchors_fit, create}
use Rattle.spec_session.specs.Diagnostics.{session_closed, wrong_lifecycle, limit_exceeded}
use Rattle.spec_session.specs.Lifecycle.{Stimulus, applied, LifecycleStep, is_closed, transition, disposition_of, with_lifecycle, state_of, reject_lifecycle, enter_lifecycle, lifecycle_step}
use Rattle.spec_session.specs.Lifecycle as lifecycle
use Rattle.spec_session.specs.Batch.{BatchEnvelope, Check, pass, refuse, batch_checks, reject_batch, keep_session, advanced, apply_batch, candidate, commit, conclude_batch, batch}
use Rattle.spec_session.proofs.BatchLaws.{checks_passed}
use Rattle.spec_session.specs.ValidSession.{LimitsFit, AnchorsInRange, FewAnchors, ValidSession}

-- ---- at creation

made_is : (s t : Session) → made s ≡ made t → s ≡ t
made_is s t e = cc

pub few_anchors : (c : Catalogue) → anchors_fit c ≡ true → FewAnchors c
unfolding anchors_fit
few_anchors c f =
    let rest = and_right (leb (length c.nodes) anchors) _ f in
    record {
      nodes = leb-true (length c.nodes) anchors (and_left _ _ f);
      bindings = leb-true (length c.bindings) anchors (and_left _ _ rest);
      collections = leb-true (length c.collections) anchors (and_right (leb (length c.bindings) anchors) _ rest);
    }

pub create_valid : (i : ℕ) (l : Limits) (c : Catalogue) (s : Session) → U64 i → LimitsFit l → AnchorsInRange c → create i l c ≡ made s → ValidSession s
unfolding create new_session
create_valid i l c s u h r e = go (anchors_fit c) refl e
  where
    go : (t : Bool) → anchors_fit c ≡ t → (if t then made (new_session i l c) else refused too_many_anchors) ≡ made s → ValidSession s
    go true f e = subst ValidSession (made_is (new_session i l c) s e) (record { id = u; limits = h; in_range = r; few = few_anchors c f; cursor = tt; projection = empty_valid })
    go false f e = absurd (let z : ◌≡◌ {A = ℕ} 0 1 = cc in omega arith)

-- ---- after a lifecycle step

-- what holds of a rejection and of the session in each lifecycle holds of the step
step_cases : (P : LifecycleStep → Type 0) (s : Session) (u : Stimulus) (b : ℕ) → P (reject_lifecycle s b session_closed) → P (reject_lifecycle s b wrong_lifecycle)
    → P (reject_lifecycle s b limit_exceeded) → ((l : Lifecycle) → transition s.lifecycle u ≡ some l → P (enter_lifecycle s b (disposition_of u) l)) → P (lifecycle_step s u b)
unfolding lifecycle_step
step_cases P s u b closed' wrong over entered = go (is_closed s.lifecycle) (transition s.lifecycle u) refl (leb b s.limits.stimulus_bytes)
  where
    go : (t : Bool) (x : Option Lifecycle) → transition s.lifecycle u ≡ x → (f : Bool)
        → P (if t then reject_lifecycle s b session_closed else elim x as (λ y. LifecycleStep) [ none ↦ reject_lifecycle s b wrong_lifecycle | some l ↦ if f then enter_lifecycle s b (disposition_of u) l else reject_lifecycle s b limit_exceeded ])
    go true x e f = closed'
    go false none e f = wrong
    go false (some l) e true = entered l e
    go false (some l) e false = over

pub lifecycle_step_valid : (s : Session) (u : Stimulus) (b : ℕ) → ValidSession s → ValidSession (lifecycle_step s u b).next
unfolding reject_lifecycle enter_lifecycle with_lifecycle
lifecycle_step_valid s u b v =
    step_cases (λ (x : LifecycleStep). ValidSession x.next) s u b v v v
    (λ l e. record { id = v.id; limits = v.limits; in_range = v.in_range; few = v.few; cursor = v.cursor; projection = v.projection })

-- a lifecycle step that is not applied leaves the session as it was
pub lifecycle_step_unchanged : (s : Session) (u : Stimulus) (b : ℕ) → ((lifecycle_step s u b).answer.disposition ≡ applied → ⊥) → (lifecycle_step s u b).next ≡ s
unfolding reject_lifecycle enter_lifecycle with_lifecycle disposition_of transition
lifecycle_step_unchanged s u b =
    step_cases (λ (x : LifecycleStep). (x.answer.disposition ≡ applied → ⊥) → x.next ≡ s) s u b (λ h. refl) (λ h. refl) (λ h. refl)
    (λ l e h. entered l u e h)
  where
    entered : (l : Lifecycle) (u : Stimulus) → transition s.lifecycle u ≡ some l → (disposition_of u ≡ applied → ⊥) → with_lifecycle s l ≡ s
    entered l lifecycle.activate e h = absurd (h refl)
    entered l lifecycle.suspend e h = absurd (h refl)
    entered l lifecycle.resume e h = absurd (h refl)
    entered l lifecycle.close e h = absurd (h refl)
    entered l lifecycle.no_op e h = ap (with_lifecycle s) (sym same)
      where
        same : s.lifecycle ≡ l
        same = cc

-- the answer tells the state of the session that the step leads to, which differs in its lifecycle alone
pub lifecycle_step_told : (s : Session) (u : Stimulus) (b : ℕ) → state_of (lifecycle_step s u b).next ≡ (lifecycle_step s u b).answer.state
unfolding reject_lifecycle enter_lifecycle
lifecycle_step_told s u b = step_cases (λ (x : LifecycleStep). state_of x.next ≡ x.answer.state) s u b refl refl refl (λ l e. refl)

pub lifecycle_step_rest : (s : Session) (u : Stimulus) (b : ℕ) → (lifecycle_step s u b).next ≡ with_lifecycle s (lifecycle_step s u b).answer.state.lifecycle
unfolding reject_lifecycle enter_lifecycle with_lifecycle state_of
lifecycle_step_rest s u b = step_cases (λ (x : LifecycleStep). x.next ≡ with_lifecycle s x.answer.state.lifecycle) s u b refl refl refl (λ l e. refl)

-- ---- after a batch step

-- with bytes, and a sequence number that is a u64
pub batch_valid : (ed : Edition) (s : Session) (e : BatchEnvelope) (references : ℕ) (set : List ℕ) → Bytes set → U64 e.sequence → ValidSession s → ValidSession (batch ed s e references set).next
unfolding batch conclude_batch candidate commit reject_batch keep_session apply_batch advanced
batch_valid ed s e references set b n v = by_checks (batch_checks ed s e references set) refl
  where
    by_count : (t : Bool) (q : Projection) → Valid q → ValidSession (if t then keep_session s else apply_batch s e.sequence q).next
    by_count true q w = v
    by_count false q w = record { id = v.id; limits = v.limits; in_range = v.in_range; few = v.few; cursor = n; projection = w }

    by_outcome : (x : Outcome) (ps : List Patch) → All (FitsPatch ed) ps → apply_steps s.projection (replay_steps ps) ≡ x → ValidSession (commit s e x).next
    by_outcome (stopped f) ps h q = v
    by_outcome (done p) ps h q = by_count (eqb e.patches 0) p (apply_steps_valid ed s.projection (replay_steps ps) p (replay_steps_fit ed ps h) v.projection q)

    by_checks : (c : Check (List Patch)) → batch_checks ed s e references set ≡ c → ValidSession (conclude_batch s e c).next
    by_checks (refuse r k) h = v
    by_checks (pass ps) h = by_outcome (apply_steps s.projection (replay_steps ps)) ps (was_encoded ed set ps b (checks_passed ed s e references set ps h).reads).1.patches refl
