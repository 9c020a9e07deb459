-- What follows from steps 1 to 8 that passed; a batch that is applied has run all its operations, and any other leaves the session as it
-- was.
use Rattle.std.specs.Prelude.{ℕ, ◌+◌, ◌≡◌, refl, Bool, true, false, not, ◌&&◌, ◌||◌, List, [], ◌∷◌, ◌++◌, leb, eqb, length, if◌then◌else◌}
use Rattle.std.proofs.Common.{ap, ◌∙◌, arith, eqb-true}
use Rattle.std.proofs.lemmas.Bool.{eqb-false}
use Rattle.spec_lists.specs.Lists.{is_empty}
use Rattle.spec_patch.specs.Patch.{Operation, Patch}
use Rattle.spec_patch.specs.Edition.{Edition}
use Rattle.spec_patch.specs.Read.{SetReading, patches, fault, read_set}
use Rattle.spec_checks.specs.Findings.{findings}
use Rattle.spec_projection.specs.Projection.{Projection}
use Rattle.spec_projection.specs.Apply.{Outcome, done, stopped, apply_steps, replay_steps, operations_of}
use Rattle.spec_session.specs.Session.{Catalogue, Session}
use Rattle.spec_session.specs.Diagnostics.{SessionRefusal, session_mismatch, session_closed, limit_exceeded, counts_differ, unknown_target, cursor_mismatch, checks_failed}
use Rattle.spec_session.specs.Lifecycle.{is_closed, Disposition, applied, rejected}
use Rattle.spec_session.specs.Batch.{BatchEnvelope, Check, pass, refuse, ◌>>=◌, ◌>>◌, require, readable, absent_targets, known_targets, takes_number, batch_checks, reject_batch, keep_session, apply_batch, candidate, commit, conclude_batch, batch}

-- ---- one check

-- a refusal is no pass
pub never_passes : {A : Type 0} {C : Type 0} {r : SessionRefusal} {n : ℕ} {a : A} → refuse r n ≡ pass a → C
never_passes e = absurd (let z : ◌≡◌ {A = ℕ} 0 1 = cc in omega arith)

-- a check that passed: its test held, and what follows passed
pub passed : {A : Type 0} (t : Bool) (r : SessionRefusal) (c : Check A) (a : A) → (require t r >> c) ≡ pass a → (t ≡ true) × (c ≡ pass a)
unfolding require
passed true r c a e = (refl, e)
passed false r c a e = never_passes e

pub passed_targets : {A : Type 0} (k : ℕ) (c : Check A) (a : A) → (known_targets k >> c) ≡ pass a → (k ≡ 0) × (c ≡ pass a)
unfolding known_targets
passed_targets k c a e = go (eqb k 0) refl e
  where
    go : (t : Bool) → eqb k 0 ≡ t → ((if t then pass tt else refuse unknown_target k) >> c) ≡ pass a → (k ≡ 0) × (c ≡ pass a)
    go true q e = (eqb-true k 0 q, e)
    go false q e = never_passes e

-- step 4 passed: the bytes were readable
pub passed_reading : {A : Type 0} (x : SetReading) (c : List Patch → Check A) (a : A) → (readable x >>= c) ≡ pass a → (ps : List Patch) × (x ≡ patches ps) × (c ps ≡ pass a)
unfolding readable
passed_reading (patches ps) c a e = (ps, refl, e)
passed_reading (fault f) c a e = never_passes e

-- ---- steps 1 to 8

-- what each of the steps found, where all passed
pub record ChecksPassed (ed : Edition) (s : Session) (e : BatchEnvelope) (references : ℕ) (set : List ℕ) (ps : List Patch) : Type 0 where
  pub session : eqb e.session s.id ≡ true
  pub is_open : not (is_closed s.lifecycle) ≡ true
  pub limits : (leb e.patches s.limits.patches && leb e.stimulus_bytes s.limits.stimulus_bytes) ≡ true
  pub reads : read_set ed set ≡ patches ps
  pub clean : is_empty (findings ps).found ≡ true
  pub counts : (eqb e.patches (length ps) && eqb references (length (operations_of ps))) ≡ true
  pub few_references : leb (length (operations_of ps)) s.limits.references ≡ true
  pub targets : absent_targets s.catalogue (operations_of ps) ≡ 0
  pub number : (eqb e.patches 0 || takes_number s.cursor e.sequence) ≡ true

pass_is : (a b : List Patch) → pass a ≡ pass b → a ≡ b
pass_is a b e = cc

pub checks_passed : (ed : Edition) (s : Session) (e : BatchEnvelope) (references : ℕ) (set : List ℕ) (ps : List Patch) → batch_checks ed s e references set ≡ pass ps → ChecksPassed ed s e references set ps
unfolding batch_checks
checks_passed ed s e references set ps h =
    let step1 = passed (eqb e.session s.id) session_mismatch _ ps h in
    let step2 = passed (not (is_closed s.lifecycle)) session_closed _ ps step1.1 in
    let step3 = passed (leb e.patches s.limits.patches && leb e.stimulus_bytes s.limits.stimulus_bytes) limit_exceeded _ ps step2.1 in
    let step4 = passed_reading (read_set ed set) _ ps step3.1 in
    let qs = step4.0 in
    let clean = passed (is_empty (findings qs).found) checks_failed _ ps step4.2 in
    let step5 = passed (eqb e.patches (length qs) && eqb references (length (operations_of qs))) counts_differ _ ps clean.1 in
    let step6 = passed (leb (length (operations_of qs)) s.limits.references) limit_exceeded _ ps step5.1 in
    let step7 = passed_targets (absent_targets s.catalogue (operations_of qs)) _ ps step6.1 in
    let step8 = passed (eqb e.patches 0 || takes_number s.cursor e.sequence) cursor_mismatch _ ps step7.1 in
    let same : qs ≡ ps = pass_is qs ps step8.1 in
    record {
      session = step1.0;
      is_open = step2.0;
      limits = step3.0;
      reads = step4.1 ∙ ap patches same;
      clean = rw same at clean.0;
      counts = rw same at step5.0;
      few_references = rw same at step6.0;
      targets = rw same at step7.0;
      number = step8.0;
    }

-- ---- a batch that is not applied

-- a rejection leaves the session as it was, and so does NoChange
pub batch_unchanged : (ed : Edition) (s : Session) (e : BatchEnvelope) (references : ℕ) (set : List ℕ) → ((batch ed s e references set).answer.disposition ≡ applied → ⊥) → (batch ed s e references set).next ≡ s
unfolding batch conclude_batch commit reject_batch keep_session apply_batch
batch_unchanged ed s e references set h = by_checks (batch_checks ed s e references set) h
  where
    by_count : (t : Bool) (p : Projection) → ((if t then keep_session s else apply_batch s e.sequence p).answer.disposition ≡ applied → ⊥) → (if t then keep_session s else apply_batch s e.sequence p).next ≡ s
    by_count true p h = refl
    by_count false p h = absurd (h refl)

    by_outcome : (x : Outcome) → ((commit s e x).answer.disposition ≡ applied → ⊥) → (commit s e x).next ≡ s
    by_outcome (stopped f) h = refl
    by_outcome (done p) h = by_count (eqb e.patches 0) p h

    by_checks : (c : Check (List Patch)) → ((conclude_batch s e c).answer.disposition ≡ applied → ⊥) → (conclude_batch s e c).next ≡ s
    by_checks (refuse r n) h = refl
    by_checks (pass ps) h = by_outcome (candidate s ps) h

-- ---- a batch that is applied

-- all its patches' operations ran, the projection is what they left, and the cursor stands at the batch's number
pub record Applied (ed : Edition) (s : Session) (e : BatchEnvelope) (references : ℕ) (set : List ℕ) : Type 0 where
  pub patches : List Patch
  pub passes : batch_checks ed s e references set ≡ pass patches
  pub result : Projection
  pub runs : apply_steps s.projection (replay_steps patches) ≡ done result
  pub non_empty : e.patches ≡ 0 → ⊥
  pub step : batch ed s e references set ≡ apply_batch s e.sequence result

pub batch_applied : (ed : Edition) (s : Session) (e : BatchEnvelope) (references : ℕ) (set : List ℕ) → (batch ed s e references set).answer.disposition ≡ applied → Applied ed s e references set
unfolding batch conclude_batch candidate commit reject_batch keep_session
batch_applied ed s e references set a = by_checks (batch_checks ed s e references set) refl a
  where
    never : {C : Type 0} {d : Disposition} → d ≡ rejected → d ≡ applied → C
    never p q = absurd (let z : ◌≡◌ {A = ℕ} 0 1 = cc in omega arith)

    by_count : (ps : List Patch) (q : Projection) → batch_checks ed s e references set ≡ pass ps → apply_steps s.projection (replay_steps ps) ≡ done q
        → (t : Bool) → eqb e.patches 0 ≡ t → (if t then keep_session s else apply_batch s e.sequence q).answer.disposition ≡ applied → Applied ed s e references set
    by_count ps q c r true z a = absurd (let w : ◌≡◌ {A = ℕ} 0 1 = cc in omega arith)
    by_count ps q c r false z a = record { patches = ps; passes = c; result = q; runs = r; non_empty = eqb-false e.patches 0 z; step = rw (c, r, z) }

    by_outcome : (ps : List Patch) (x : Outcome) → batch_checks ed s e references set ≡ pass ps → apply_steps s.projection (replay_steps ps) ≡ x
        → (commit s e x).answer.disposition ≡ applied → Applied ed s e references set
    by_outcome ps (stopped f) c r a = never refl a
    by_outcome ps (done q) c r a = by_count ps q c r (eqb e.patches 0) refl a

    by_checks : (c : Check (List Patch)) → batch_checks ed s e references set ≡ c → (conclude_batch s e c).answer.disposition ≡ applied → Applied ed s e references set
    by_checks (refuse r n) c a = never refl a
    by_checks (pass ps) c a = by_outcome ps (apply_steps s.projection (replay_steps ps)) c refl a

-- absent targets are counted part by part
pub absent_append : (c : Catalogue) (a b : List Operation) → absent_targets c (a ++ b) ≡ absent_targets c a + absent_targets c b
unfolding absent_targets
absent_append c [] b = omega arith
absent_append c (o ∷ a) b = omega (arith, absent_append c a b)
