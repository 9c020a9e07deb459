-- A reason is given exactly where the batch is rejected, and it is the batch's refusal; what it says holds.
use Rattle.std.specs.Prelude.{ℕ, ◌+◌, Bool, not, ◌&&◌, ◌||◌, ◌↔◌, ltb, length, if◌then◌else◌}
use Rattle.std.proofs.Math.Path.{◌≡◌, refl, ap, subst}
use Rattle.std.proofs.Common.{sym, ◌∙◌, arith, leb-true, leb-false, eqb-true, ne_eqb, eq-eqb}
use Rattle.std.proofs.Math.Bool.{true, false}
use mathlib.Core.List.{List, [], ◌∷◌, ◌++◌}
use Rattle.std.proofs.Math.Option.{Option, none, some}
use Rattle.std.proofs.lemmas.Bool.{eqb-false}
use Rattle.std.proofs.Math.Dec.{leb, eqb}
use Rattle.spec_lists.specs.Lists.{all, is_empty}
use Rattle.spec_lists.proofs.ListLaws.{test_cases, and_left, and_right, or_left, or_right}
use Rattle.spec_patch.specs.Sizes.{largest_u64}
use Rattle.spec_patch.specs.Patch.{Operation, Patch}
use Rattle.spec_patch.specs.Edition.{Edition}
use Rattle.spec_patch.specs.Read.{SetReading, patches, fault, read_set}
use Rattle.spec_checks.specs.Finding.{Finding}
use Rattle.spec_checks.specs.Findings.{findings}
use Rattle.spec_projection.specs.Projection.{Projection}
use Rattle.spec_projection.specs.Effects.{target_of}
use Rattle.spec_projection.specs.Apply.{OperationFault, Outcome, done, stopped, ReplayStep, apply_operation, apply_steps, and_then, replay_steps, operations_of}
use Rattle.spec_projection.specs.Apply as applying
use Rattle.spec_projection.proofs.ApplyLaws.{fails_there}
use Rattle.spec_session.specs.Session.{Lifecycle, created, active, suspended, closed, Cursor, uninitialized, at, Catalogue, Session}
use Rattle.spec_session.specs.Diagnostics as session
use Rattle.spec_session.specs.Diagnostics.{SessionRefusal, no_diagnostics}
use Rattle.spec_session.specs.Lifecycle.{rejected, is_closed}
use Rattle.spec_session.specs.Batch as batching
use Rattle.spec_session.specs.Batch.{BatchEnvelope, BatchStep, Check, pass, in_catalogue, absent_targets, takes_number, batch_checks, reject_batch, keep_session, apply_batch, candidate, commit, conclude_batch, batch}
use Rattle.spec_session.proofs.BatchLaws.{absent_append}
use Rattle.spec_explain.specs.ReadingRule.{Unread}
use Rattle.spec_explain.specs.Locate.{locate}
use Rattle.spec_explain.proofs.LocateLaws.{Agrees, reads, stops, locate_agrees}
use Rattle.spec_explain.proofs.FirstByteLaws.{first_byte}
use Rattle.spec_explain.proofs.PlacedLaws.{named_place}
use Rattle.spec_explain.specs.OperationRule.{OperationRule, operation_fault, rule_of}
use Rattle.spec_explain.proofs.OperationRuleLaws.{rule_told}
use Rattle.spec_explain.specs.Walk.{Halt, Walk, through, halted, walk_patches, if_some, tested, patch_id, steps_before, operations_before, run_steps, FirstLacking}
use Rattle.spec_explain.proofs.WalkLaws.{walk_through, walk_first, steps_parted, operations_parted, test_through, test_first}
use Rattle.spec_explain.specs.Reason.{Reason, foreign_session, session_closed, unreadable, has_findings, counts_differ, references_over, unknown_target, cursor_mismatch, operation_fails, refusal_for, logical_of}
use Rattle.spec_explain.specs.Explain.{Explained, fine, because, ◌>>=◌, ◌>>◌, require_or, which_limit, over_declared, patches_read, patches_readable, no_findings, target_known, targets_known, next_number, kept_projection, step_kept, applies, explain_steps, reason_of, explain_batch}
use Rattle.spec_explain.specs.Claim.{FirstFailing, Says}

-- ---- targets

module _ (c : Catalogue) where
  -- no target is absent where all are known
  none_absent : (os : List Operation) → all (target_known c) os ≡ true → absent_targets c os ≡ 0
  unfolding absent_targets target_known
  none_absent [] e = refl
  none_absent (o ∷ os) e = rw (and_left (in_catalogue c (target_of o)) _ e) (omega (arith, none_absent os (and_right (in_catalogue c (target_of o)) _ e)))

  -- a list with an absent target counts it
  some_absent : (ps : List Patch) (i j : ℕ) → FirstLacking (target_known c) ps i j → absent_targets c (operations_of ps) ≡ 0 → ⊥
  unfolding absent_targets target_known
  some_absent ps i j f z =
      let behind = f.there.behind ++ operations_of f.there.later in
      let one : absent_targets c (f.operation ∷ behind) ≡ 1 + absent_targets c behind = rw f.lacks in
      omega (arith, absent_append c (operations_before f.there) (f.operation ∷ behind), one, ap (absent_targets c) (sym (operations_parted f.there)) ∙ z)

-- ---- operations

kept_some : (x : Outcome) (p : Projection) → kept_projection x ≡ some p → x ≡ done p
unfolding kept_projection
kept_some (done q) p e = let same : q ≡ p = cc in ap done same
kept_some (stopped f) p e = absurd (let z : ◌≡◌ {A = ℕ} 0 1 = cc in omega arith)

kept_none : (x : Outcome) → kept_projection x ≡ none → (f : OperationFault) × (x ≡ stopped f)
unfolding kept_projection
kept_none (done q) e = absurd (let z : ◌≡◌ {A = ℕ} 0 1 = cc in omega arith)
kept_none (stopped f) e = (f, refl)

-- the steps that go through are those that apply
runs_applied : (p : Projection) (ss : List ReplayStep) → run_steps step_kept p ss ≡ kept_projection (apply_steps p ss)
unfolding run_steps step_kept apply_steps applying.apply_step kept_projection
runs_applied p [] = refl
runs_applied p (r ∷ ss) = go (apply_operation p r.patch r.operation) (λ q. runs_applied q ss)
  where
    go : (x : Outcome) → ((q : Projection) → run_steps step_kept q ss ≡ kept_projection (apply_steps q ss)) → if_some (kept_projection x) (λ q. run_steps step_kept q ss) ≡ kept_projection (and_then x (λ q. apply_steps q ss))
    go (done q) later = later q
    go (stopped f) later = refl

pub all_applied : (p : Projection) (ps : List Patch) (q : Projection) → walk_patches step_kept 0 p ps ≡ through q → apply_steps p (replay_steps ps) ≡ done q
all_applied p ps q e = kept_some _ q (sym (runs_applied p (replay_steps ps)) ∙ walk_through step_kept 0 p ps q e)

pub first_failing : (p : Projection) (ps : List Patch) (h : Halt Projection) → walk_patches step_kept 0 p ps ≡ halted h → FirstFailing p ps h.patch h.operation (rule_of h.left h.refused)
unfolding step_kept
first_failing p ps h e =
    let f = walk_first step_kept p ps h e in
    let fails = kept_none _ f.ends in
    let told = rule_told h.left (patch_id f.there) h.refused fails.0 fails.1 in
    record {
      operation = h.refused;
      there = f.there;
      reached = h.left;
      applied = kept_some _ h.left (sym (runs_applied p (steps_before f.there)) ∙ f.ran);
      fails = fails.1 ∙ ap stopped (sym told.number);
      breaks = told.breaks;
    }

-- the run of all operations fails there, with the number of the rule
pub stopped_there : (p : Projection) (ps : List Patch) (i j : ℕ) (rule : OperationRule) → FirstFailing p ps i j rule → apply_steps p (replay_steps ps) ≡ stopped (operation_fault rule)
unfolding applying.apply_step
stopped_there p ps i j rule f =
    fails_there p (replay_steps ps) (operation_fault rule) (record {
      earlier = steps_before f.there;
      step = _;
      later = _;
      parts = steps_parted f.there;
      reached = f.reached;
      ran = f.applied;
      fails = f.fails;
    })

-- ---- the cursor

-- a cursor that refuses some number takes just the one after its own
number_taken : (c : Cursor) (k : ℕ) → takes_number c k ≡ false → (n : ℕ) → (takes_number c n ≡ true) ↔ (next_number c ≡ some n)
unfolding takes_number next_number
number_taken uninitialized k t n = absurd (let z : ◌≡◌ {A = ℕ} 0 1 = cc in omega arith)
number_taken (at m) k t n = test_cases (ltb m largest_u64)
    (λ b. rw b (λ h. ap some (sym (eqb-true n (m + 1) h)), λ h. let same : m + 1 ≡ n = cc in eq-eqb n (m + 1) (sym same)))
    (λ b. rw b (λ h. absurd (let z : ◌≡◌ {A = ℕ} 0 1 = cc in omega arith), λ h. absurd (let z : ◌≡◌ {A = ℕ} 0 1 = cc in omega arith)))

-- ---- steps 1 to 9

module _ (ed : Edition) (s : Session) (e : BatchEnvelope) (references : ℕ) (set : List ℕ) where
  -- a reason is that of the rejection, and says what holds; without one there is no rejection
  data Explains : Explained (Unit {0}) → BatchStep → Type 0 where
    explains : (r : Reason) → Says ed s e references set r → (logical_of r ≡ 0 → ⊥) → Explains (because r) (reject_batch s (refusal_for r) (logical_of r))
    accepts : (b : BatchStep) → (b.answer.disposition ≡ rejected → ⊥) → b.answer.diagnostics ≡ no_diagnostics → Explains (fine tt) b

  -- one step
  step : (t : Bool) (r : Reason) (k : SessionRefusal) (c : Explained (Unit {0})) (d : Check (List Patch)) → refusal_for r ≡ k → logical_of r ≡ 1
      → (t ≡ false → Says ed s e references set r) → (t ≡ true → Explains c (conclude_batch s e d)) → Explains (require_or t r >> c) (conclude_batch s e (batching.◌>>◌ (batching.require t k) d))
  unfolding require_or batching.require conclude_batch
  step true r k c d is one says on = on refl
  step false r k c d is one says on = rw (← is, ← one) (explains r (says refl) (λ z. omega (arith, one)))

  -- step 4: the bytes are read, or reading stops by a rule of the same number
  reading_step : (o : Option Unread) (x : SetReading) → locate ed set ≡ o → read_set ed set ≡ x → Agrees ed o x → (c : List Patch → Explained (Unit {0})) (d : List Patch → Check (List Patch))
      → ((ps : List Patch) → read_set ed set ≡ patches ps → Explains (c ps) (conclude_batch s e (d ps))) → Explains (patches_readable o (patches_read x) >>= c) (conclude_batch s e (batching.◌>>=◌ (batching.readable x) d))
  unfolding patches_readable patches_read batching.readable conclude_batch
  reading_step (some u) (patches ps) l r x8 c d on = elim x8 [ ]
  reading_step none (fault f) l r x10 c d on = elim x10 [ ]
  reading_step none (patches ps) l r (reads qs) c d on = on ps r
  reading_step (some u) (fault f) l r (stops v g is) c d on = rw (← is) (explains (unreadable u) (Says.not_read u l (first_byte ed set u l) (named_place ed set u l)) (λ z. omega arith))

  -- the checks find nothing, or the first of what they find
  findings_step : (ps : List Patch) → read_set ed set ≡ patches ps → (fs : List Finding) → (findings ps).found ≡ fs → (c : Explained (Unit {0})) (d : Check (List Patch))
      → Explains c (conclude_batch s e d) → Explains (no_findings (findings ps).place fs >> c) (conclude_batch s e (batching.◌>>◌ (batching.require (is_empty fs) session.checks_failed) d))
  unfolding no_findings batching.require conclude_batch
  findings_step ps r [] is c d on = on
  findings_step ps r (f ∷ fs) is c d on = explains (has_findings (findings ps).place (length (f ∷ fs)) f) (Says.found ps r f fs is) (λ z. omega arith)

  -- step 7
  targets_step : (ps : List Patch) → read_set ed set ≡ patches ps → (w : Walk (Unit {0})) → walk_patches (tested (target_known s.catalogue)) 0 tt ps ≡ w → (c : Explained (Unit {0})) (d : Check (List Patch))
      → Explains c (conclude_batch s e d)
      → Explains (targets_known (absent_targets s.catalogue (operations_of ps)) w >> c) (conclude_batch s e (batching.◌>>◌ (batching.known_targets (absent_targets s.catalogue (operations_of ps))) d))
  unfolding targets_known batching.known_targets conclude_batch
  targets_step ps r (through u) is c d on = rw (none_absent s.catalogue (operations_of ps) (test_through (target_known s.catalogue) ps u is)) on
  targets_step ps r (halted h) is c d on =
      let f = test_first (target_known s.catalogue) ps h is in
      let present = some_absent s.catalogue ps h.patch h.operation f in
      rw (ne_eqb (absent_targets s.catalogue (operations_of ps)) 0 present)
      (explains (unknown_target (absent_targets s.catalogue (operations_of ps)) h.patch h.operation) (Says.unknown ps r h.patch h.operation f) present)

  -- step 9
  apply_step_lem : (ps : List Patch) → read_set ed set ≡ patches ps → (w : Walk Projection) → walk_patches step_kept 0 s.projection ps ≡ w → Explains (applies w) (conclude_batch s e (pass ps))
  unfolding applies conclude_batch candidate commit keep_session apply_batch
  apply_step_lem ps r (through q) is = rw (all_applied s.projection ps q is) (accepted (eqb e.patches 0))
    where
      accepted : (t : Bool) → Explains (fine tt) (if t then keep_session s else apply_batch s e.sequence q)
      accepted true = accepts (keep_session s) (λ z. let w : ◌≡◌ {A = ℕ} 0 1 = cc in omega arith) refl
      accepted false = accepts (apply_batch s e.sequence q) (λ z. let w : ◌≡◌ {A = ℕ} 0 1 = cc in omega arith) refl
  apply_step_lem ps r (halted h) is =
      let f = first_failing s.projection ps h is in
      rw (stopped_there s.projection ps h.patch h.operation (rule_of h.left h.refused) f)
      (explains (operation_fails h.patch h.operation (rule_of h.left h.refused)) (Says.fails ps r h.patch h.operation _ f) (λ z. omega arith))

  -- ---- what the steps say

  is_closed_lem : (l : Lifecycle) → not (is_closed l) ≡ false → l ≡ closed
  is_closed_lem created t = cc
  is_closed_lem active t = cc
  is_closed_lem suspended t = cc
  is_closed_lem closed t = refl

  limits_say : (leb e.patches s.limits.patches && leb e.stimulus_bytes s.limits.stimulus_bytes) ≡ false → Says ed s e references set (over_declared s e)
  unfolding over_declared which_limit
  limits_say t = test_cases (leb e.patches s.limits.patches)
      (λ p. let b : leb e.stimulus_bytes s.limits.stimulus_bytes ≡ false = rw p at t in
      rw p (Says.many_bytes (leb-true _ _ p) (leb-false _ _ b)))
      (λ p. test_cases (leb e.stimulus_bytes s.limits.stimulus_bytes)
      (λ b. rw (p, b) (Says.many_patches (leb-false _ _ p) (leb-true _ _ b)))
      (λ b. rw (p, b) (Says.many_of_both (leb-false _ _ p) (leb-false _ _ b))))

  counts_say : (ps : List Patch) → read_set ed set ≡ patches ps → (eqb e.patches (length ps) && eqb references (length (operations_of ps))) ≡ false
      → Says ed s e references set (counts_differ e.patches (length ps) references (length (operations_of ps)))
  counts_say ps r t = Says.differ ps r (λ a b. let z : true ≡ false = rw (eq-eqb _ _ a, eq-eqb _ _ b) at t in let w : ◌≡◌ {A = ℕ} 0 1 = cc in omega arith)

  cursor_says : (eqb e.patches 0 || takes_number s.cursor e.sequence) ≡ false → Says ed s e references set (cursor_mismatch (next_number s.cursor))
  cursor_says t = let refused = or_right (eqb e.patches 0) _ t in Says.not_taken (eqb-false e.patches 0 (or_left _ _ t)) refused (number_taken s.cursor e.sequence refused)

  -- ---- all of them

  explains_batch : Explains (explain_steps ed s e references set) (batch ed s e references set)
  unfolding explain_steps batch batch_checks over_declared
  explains_batch =
      step (eqb e.session s.id) (foreign_session e.session s.id) session.session_mismatch _ _ refl refl (λ t. Says.foreign (eqb-false _ _ t)) (λ _.
      step (not (is_closed s.lifecycle)) session_closed session.session_closed _ _ refl refl (λ t. Says.is_closed (is_closed_lem s.lifecycle t)) (λ _.
      step (leb e.patches s.limits.patches && leb e.stimulus_bytes s.limits.stimulus_bytes) (over_declared s e) session.limit_exceeded _ _ refl refl limits_say (λ _.
      reading_step (locate ed set) (read_set ed set) refl refl (locate_agrees ed set) _ _ (λ ps r.
      findings_step ps r (findings ps).found refl _ _
      (step (eqb e.patches (length ps) && eqb references (length (operations_of ps))) (counts_differ e.patches (length ps) references (length (operations_of ps))) session.counts_differ _ _ refl refl (counts_say ps r) (λ _.
      step (leb (length (operations_of ps)) s.limits.references) (references_over (length (operations_of ps)) s.limits.references) session.limit_exceeded _ _ refl refl (λ t. Says.many_references ps r (leb-false _ _ t)) (λ _.
      targets_step ps r (walk_patches (tested (target_known s.catalogue)) 0 tt ps) refl _ _
      (step (eqb e.patches 0 || takes_number s.cursor e.sequence) (cursor_mismatch (next_number s.cursor)) session.cursor_mismatch _ _ refl refl cursor_says (λ _.
      apply_step_lem ps r (walk_patches step_kept 0 s.projection ps) refl)))))))))

  -- ---- the theorems

  because_is : {a b : Reason} → some a ≡ some b → a ≡ b
  because_is q = cc

  apart : {C : Type 0} {r : Reason} → none ≡ some r → C
  apart q = absurd (let z : ◌≡◌ {A = ℕ} 0 1 = cc in omega arith)

  -- a batch that is explained is rejected with the refusal of the reason, and with its count of diagnostics, both before the cap
  pub rejected_by : (r : Reason) → explain_batch ed s e references set ≡ some r → batch ed s e references set ≡ reject_batch s (refusal_for r) (logical_of r)
  unfolding explain_batch reason_of
  rejected_by r q = go (explain_steps ed s e references set) (batch ed s e references set) explains_batch q
    where
      go : (x : Explained (Unit {0})) (b : BatchStep) → Explains x b → reason_of x ≡ some r → b ≡ reject_batch s (refusal_for r) (logical_of r)
      go (because t) b (explains t' says n) q = ap (λ (u : Reason). reject_batch s (refusal_for u) (logical_of u)) (because_is q)
      go (fine u) b (accepts b' n d) q = apart q

  -- what a reason says holds
  pub told : (r : Reason) → explain_batch ed s e references set ≡ some r → Says ed s e references set r
  unfolding explain_batch reason_of
  told r q = go (explain_steps ed s e references set) (batch ed s e references set) explains_batch q
    where
      go : (x : Explained (Unit {0})) (b : BatchStep) → Explains x b → reason_of x ≡ some r → Says ed s e references set r
      go (because t) b (explains t' says n) q = subst (Says ed s e references set) (because_is q) says
      go (fine u) b (accepts b' n d) q = apart q

  -- there is always a diagnostic behind a reason
  pub logical_some : (r : Reason) → explain_batch ed s e references set ≡ some r → logical_of r ≡ 0 → ⊥
  unfolding explain_batch reason_of
  logical_some r q = go (explain_steps ed s e references set) (batch ed s e references set) explains_batch q
    where
      go : (x : Explained (Unit {0})) (b : BatchStep) → Explains x b → reason_of x ≡ some r → logical_of r ≡ 0 → ⊥
      go (because t) b (explains t' says n) q z = n (ap logical_of (because_is q) ∙ z)
      go (fine u) b (accepts b' n d) q z = apart q

  -- a batch without a reason is not rejected
  pub not_rejected : explain_batch ed s e references set ≡ none → (batch ed s e references set).answer.disposition ≡ rejected → ⊥
  unfolding explain_batch reason_of
  not_rejected q = go (explain_steps ed s e references set) (batch ed s e references set) explains_batch q
    where
      go : (x : Explained (Unit {0})) (b : BatchStep) → Explains x b → reason_of x ≡ none → b.answer.disposition ≡ rejected → ⊥
      go (because t) b (explains t' says n) q = apart (sym q)
      go (fine u) b (accepts b' n d) q = n

  -- nor has it diagnostics
  pub no_diagnostics_lem : explain_batch ed s e references set ≡ none → (batch ed s e references set).answer.diagnostics ≡ no_diagnostics
  unfolding explain_batch reason_of
  no_diagnostics_lem q = go (explain_steps ed s e references set) (batch ed s e references set) explains_batch q
    where
      go : (x : Explained (Unit {0})) (b : BatchStep) → Explains x b → reason_of x ≡ none → b.answer.diagnostics ≡ no_diagnostics
      go (because t) b (explains t' says n) q = apart (sym q)
      go (fine u) b (accepts b' n d) q = d

  -- there is a reason exactly where the batch is rejected
  pub reason_exactly : ((batch ed s e references set).answer.disposition ≡ rejected) ↔ ((r : Reason) × (explain_batch ed s e references set ≡ some r))
  unfolding reject_batch
  reason_exactly = (λ d. has (explain_batch ed s e references set) refl d, λ w. ap (λ (b : BatchStep). b.answer.disposition) (rejected_by w.0 w.1))
    where
      has : (o : Option Reason) → explain_batch ed s e references set ≡ o → (batch ed s e references set).answer.disposition ≡ rejected → (r : Reason) × (explain_batch ed s e references set ≡ some r)
      has none q d = absurd (not_rejected q d)
      has (some r) q d = (r, q)
