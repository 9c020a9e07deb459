-- The steps by what they look at are the steps of `explain_steps`, and what the searches answer gives their reasons.
use Rattle.std.specs.Prelude as code
use Rattle.std.specs.Prelude.{ℕ, Result, Ok, Err, ◌+◌, Bool, ◌&&◌, ◌||◌, get_or, if◌then◌else◌}
use Rattle.std.proofs.Math.Path.{◌≡◌, refl, sym, ap, ap₂}
use Rattle.std.proofs.Common.{◌∙◌, subst, arith}
use Rattle.std.proofs.Math.Bool.{true, false, not}
use mathlib.Core.List.{List, [], ◌∷◌, flat_map}
use Rattle.std.proofs.Math.Option.{Option, none, some}
use Rattle.std.proofs.Math.Dec.{eqb}
use Rattle.std.proofs.Math.ListN.{length}
use Rattle.spec_lists.specs.Lists.{is_empty}
use Rattle.spec_patch.specs.Edition.{Edition}
use Rattle.spec_patch.specs.Patch.{Patch}
use Rattle.spec_patch.specs.Read.{SetReading, patches, fault, read_set}
use Rattle.spec_checks.specs.Finding.{Finding, finding_key}
use Rattle.spec_checks.specs.Findings.{Place, findings}
use Rattle.spec_checks.specs.Answer.{finding_words, fitting, write_findings, checked_list}
use Rattle.spec_projection.specs.Projection.{Projection}
use Rattle.spec_projection.specs.Apply.{operations_of}
use Rattle.spec_session.specs.Session.{Lifecycle, Cursor, Limits, Catalogue, Session}
use Rattle.spec_session.specs.Diagnostics as session
use Rattle.spec_session.specs.Batch as batching
use Rattle.spec_session.specs.Lifecycle.{is_closed}
use Rattle.spec_session.specs.Batch.{BatchEnvelope, pass, refuse, absent_targets, takes_number}
use Rattle.spec_explain.specs.ReadingRule.{Unread}
use Rattle.spec_explain.specs.Locate.{locate}
use Rattle.spec_explain.proofs.LocateLaws.{Agrees, reads, stops, locate_agrees}
use Rattle.spec_explain.specs.Walk.{Walk, through, halted, walk_patches, tested}
use Rattle.spec_explain.specs.Reason.{foreign_session, session_closed, counts_differ, cursor_mismatch}
use Rattle.spec_explain.specs.Explain.{Explained, fine, because, ◌>>=◌, ◌>>◌, require_or, patches_read, patches_readable, no_findings, target_known, targets_known, next_number, step_kept, applies, explain_steps, over_declared, reason_of, withheld, given, under_cap}
use Rattle.spec_explain.specs.CallReasons.{explain_check}
use Rattle.spec_lists.specs.Options.{optional_to}
use Rattle.projection_patch.specs.ReadAnswers.{fault_to}
use Rattle.projection_patch.specs.declared.read_values.ProjectionPatchReadFault.{ProjectionPatchReadFault}
use Rattle.patch_sets.specs.SetAnswers.{operation_count_lem}
use Rattle.check_findings.specs.Found.{is_found}
use Rattle.check_quick.specs.Anchors.{anchored, absent_of}
use Rattle.check_quick.specs.QuickAnswers.{inspected_by, inspection_answer}
use Rattle.check_quick.specs.declared.inspection.SetInspection.{SetInspection}
use Rattle.check_quick.specs.declared.inspection.SetInspection.TheVariants as inspection
use Rattle.patch_locate.specs.Answers.{located_set}
use Rattle.check_set.specs.CheckAnswers.{place_to, checked_to}
use Rattle.check_set.specs.declared.check_set.CheckPlace.{CheckPlace}
use Rattle.check_set.specs.declared.check_set.PatchSetCheck.{PatchSetCheck}
use Rattle.session_lifecycle.specs.Meaning.{refusal_of}
use Rattle.session_lifecycle.specs.declared.diagnostics.ShellRefusal.{ShellRefusal}
use Rattle.session_gates.specs.Gates as gates
use Rattle.session_gates.specs.Gates.{gate_of, step_of}
use Rattle.session_gates.specs.declared.gates.GateRefusal.{GateRefusal}
use Rattle.session_gates.proofs.GatesLaws.{operations_counted}
use Rattle.session_gates.specs.Lent.{Lent}
use Rattle.session_gates.proofs.LentLaws.{absent_is}
use Rattle.session_explain.specs.Unknown.{unknown_to}
use Rattle.session_explain.specs.Refused.{reason_refused_to}
use Rattle.session_explain.specs.Reasons.{reason_to, found_to, step_to, explanation_to, first_to, capped_to, located_to, targets_to, operations_to}
use Rattle.session_explain.specs.Steps.{declared_by, explain_preflight_by, references_by, explain_counts_by, explain_replay_by, clean_by, set_by, checks_by}
use Rattle.session_explain.specs.declared.reasons.BatchReason.{BatchReason}
use Rattle.session_explain.specs.declared.reasons.BatchReason.TheVariants as reasons
use Rattle.session_explain.specs.declared.reasons.BatchExplanation.TheVariants as explanations

-- ---- one after the other

pub first_then : (a b : Explained (Unit {0})) → first_to (step_to a) (step_to b) ≡ step_to (a >> b)
first_then (fine u) b = refl
first_then (because r) b = refl

pub capped_is : (most : ℕ) (x : Explained (Unit {0})) → capped_to most (step_to x) ≡ explanation_to (under_cap most (reason_of x))
unfolding under_cap reason_of
capped_is most (fine u) = refl
capped_is most (because r) = go (eqb most 0)
  where
    go : (t : Bool) → (if t then explanations.Withheld else explanations.Given (reason_to r)) ≡ explanation_to (if t then withheld else given r)
    go true = refl
    go false = refl

pub found_is : (x : Explained (Unit {0})) → found_to (reason_of x) ≡ step_to x
unfolding reason_of
found_is (fine u) = refl
found_is (because r) = refl

-- ---- what the searches of a step come to

pub located_is : (o : Option Unread) (ps : List Patch) → located_to (located_set o) ≡ found_to (reason_of (patches_readable o ps >>= λ qs. fine tt))
unfolding patches_readable reason_of
located_is none ps = refl
located_is (some u) ps = refl

pub targets_are : (n : ℕ) (w : Walk (Unit {0})) → targets_to n (unknown_to w) ≡ step_to (targets_known n w)
unfolding targets_known
targets_are n (through u) = refl
targets_are n (halted h) = refl

pub operations_are : (w : Walk Projection) → operations_to (reason_refused_to w) ≡ step_to (applies w)
unfolding applies
operations_are (through p) = refl
operations_are (halted h) = refl

-- ---- findings, with room for the first of them

first_written : (f : Finding) (fs : List Finding) → write_findings (f ∷ fs) (0 ∷ 0 ∷ 0 ∷ []) ≡ f.kind ∷ f.domain ∷ f.secondary ∷ []
unfolding write_findings fitting finding_words finding_key flat_map
first_written f fs = refl

module _ (ps : List Patch) {c : PatchSetCheck} (told : ◌≡◌ {A = Result PatchSetCheck ProjectionPatchReadFault} (Ok c) (Ok (checked_to (checked_list ps 3)))) where
  same_check : c ≡ checked_to (checked_list ps 3)
  same_check = cc

  counted : c.logical ≡ length (findings ps).found
  unfolding checked_list
  counted = ap (λ (x : PatchSetCheck). x.logical) same_check

  placed : c.place ≡ place_to (findings ps).place
  unfolding checked_list
  placed = ap (λ (x : PatchSetCheck). x.place) same_check

  pub findings_none : c.logical ≡ 0 → Ok tt ≡ step_to (no_findings (findings ps).place (findings ps).found)
  unfolding no_findings
  findings_none z = go (findings ps).found (sym counted ∙ z)
    where
      go : (fs : List Finding) → length fs ≡ 0 → Ok tt ≡ step_to (no_findings (findings ps).place fs)
      go [] e = refl
      go (f ∷ fs) e = absurd (omega arith)

  pub findings_first : (c.logical ≡ 0 → ⊥) → (out : List ℕ) → out ≡ write_findings (findings ps).found (0 ∷ 0 ∷ 0 ∷ [])
      → Err (reasons.HasFindings c.place c.logical (get_or out 0 0) (get_or out 1 0) (get_or out 2 0)) ≡ step_to (no_findings (findings ps).place (findings ps).found)
  unfolding no_findings
  findings_first some_found out is = go (findings ps).found counted is
    where
      go : (fs : List Finding) → c.logical ≡ length fs → out ≡ write_findings fs (0 ∷ 0 ∷ 0 ∷ []) → Err (reasons.HasFindings c.place c.logical (get_or out 0 0) (get_or out 1 0) (get_or out 2 0)) ≡ step_to (no_findings (findings ps).place fs)
      go [] e h = absurd (some_found e)
      go (f ∷ fs) e h = rw (placed, e, h, first_written f fs)

pub findings_unread : (ps : List Patch) {f : ProjectionPatchReadFault} {r : Result (Unit {0}) BatchReason} → ◌≡◌ {A = Result PatchSetCheck ProjectionPatchReadFault} (Err f) (Ok (checked_to (checked_list ps 3))) → r ≡ step_to (no_findings (findings ps).place (findings ps).found)
findings_unread ps h = absurd (let z : ◌≡◌ {A = ℕ} 0 1 = cc in omega arith)

-- ---- the cursor

module _ (c : Cursor) (e : BatchEnvelope) (g : code.Result (Unit {0}) ShellRefusal) (told : step_of g ≡ gates.replay_by c e) where
  pub replay_passed : g ≡ code.Ok tt → Ok tt ≡ step_to (explain_replay_by c e)
  unfolding explain_replay_by gates.replay_by step_of require_or batching.require
  replay_passed is = go (eqb e.patches 0 || takes_number c e.sequence) (sym (ap step_of is) ∙ told)
    where
      go : (t : Bool) → pass tt ≡ batching.require t session.cursor_mismatch → Ok tt ≡ step_to (require_or t (cursor_mismatch (next_number c)))
      go true h = refl
      go false h = absurd (let z : ◌≡◌ {A = ℕ} 0 1 = cc in omega arith)

  pub replay_refused : {r : ShellRefusal} → g ≡ code.Err r → (o : code.Option ℕ) → o ≡ optional_to (next_number c) → Err (reasons.CursorMismatch o) ≡ step_to (explain_replay_by c e)
  unfolding explain_replay_by gates.replay_by step_of require_or batching.require
  replay_refused {r} is o after = ap (λ x. Err (reasons.CursorMismatch x)) after ∙ go (eqb e.patches 0 || takes_number c e.sequence) (sym (ap step_of is) ∙ told)
    where
      go : (t : Bool) → refuse (refusal_of r) 1 ≡ batching.require t session.cursor_mismatch → Err (reasons.CursorMismatch (optional_to (next_number c))) ≡ step_to (require_or t (cursor_mismatch (next_number c)))
      go true h = absurd (let z : ◌≡◌ {A = ℕ} 0 1 = cc in omega arith)
      go false h = refl

-- the same of a gate, whatever diagnostics it counts
module _ (c : Cursor) (e : BatchEnvelope) (g : code.Result (Unit {0}) GateRefusal) (told : gate_of g ≡ gates.replay_by c e) where
  pub gate_passed_replay : g ≡ code.Ok tt → Ok tt ≡ step_to (explain_replay_by c e)
  unfolding explain_replay_by gates.replay_by gate_of require_or batching.require
  gate_passed_replay is = go (eqb e.patches 0 || takes_number c e.sequence) (sym (ap gate_of is) ∙ told)
    where
      go : (t : Bool) → pass tt ≡ batching.require t session.cursor_mismatch → Ok tt ≡ step_to (require_or t (cursor_mismatch (next_number c)))
      go true h = refl
      go false h = absurd (let z : ◌≡◌ {A = ℕ} 0 1 = cc in omega arith)

  pub gate_refused_replay : {r : GateRefusal} → g ≡ code.Err r → (o : code.Option ℕ) → o ≡ optional_to (next_number c) → Err (reasons.CursorMismatch o) ≡ step_to (explain_replay_by c e)
  unfolding explain_replay_by gates.replay_by gate_of require_or batching.require
  gate_refused_replay {r} is o after = ap (λ x. Err (reasons.CursorMismatch x)) after ∙ go (eqb e.patches 0 || takes_number c e.sequence) (sym (ap gate_of is) ∙ told)
    where
      go : (t : Bool) → refuse (refusal_of r.refusal) r.logical ≡ batching.require t session.cursor_mismatch → Err (reasons.CursorMismatch (optional_to (next_number c))) ≡ step_to (require_or t (cursor_mismatch (next_number c)))
      go true h = absurd (let z : ◌≡◌ {A = ℕ} 0 1 = cc in omega arith)
      go false h = refl

-- ---- several steps

module _ (c : Catalogue) (l : Limits) (cursor : Cursor) (e : BatchEnvelope) (declared n k absent : ℕ) (ps : List Patch) where
  abbrev Clean : Result (Unit {0}) BatchReason
  Clean = step_to (clean_by c l cursor e declared n k absent ps)

  module _ {counts : Result (Unit {0}) BatchReason} (counted : counts ≡ step_to (explain_counts_by l e declared n k)) where
    after_counts : first_to counts (step_to (targets_known absent (walk_patches (tested (target_known c)) 0 tt ps) >> explain_replay_by cursor e)) ≡ Clean
    unfolding clean_by
    after_counts =
        let rest = targets_known absent (walk_patches (tested (target_known c)) 0 tt ps) >> explain_replay_by cursor e in
        ap (λ (x : Result (Unit {0}) BatchReason). first_to x (step_to rest)) counted ∙ first_then (explain_counts_by l e declared n k) rest

    pub clean_counts : {r : BatchReason} → counts ≡ Err r → Err r ≡ Clean
    clean_counts is = sym (ap (λ (x : Result (Unit {0}) BatchReason). first_to x (step_to (targets_known absent (walk_patches (tested (target_known c)) 0 tt ps) >> explain_replay_by cursor e))) is) ∙ after_counts

    module _ (is : counts ≡ Ok tt) {known : Result (Unit {0}) BatchReason} (told : known ≡ step_to (targets_known absent (walk_patches (tested (target_known c)) 0 tt ps))) where
      after_targets : first_to known (step_to (explain_replay_by cursor e)) ≡ Clean
      after_targets =
          let targets = targets_known absent (walk_patches (tested (target_known c)) 0 tt ps) in
          ap (λ (x : Result (Unit {0}) BatchReason). first_to x (step_to (explain_replay_by cursor e))) told ∙ first_then targets (explain_replay_by cursor e)
          ∙ sym (ap (λ (x : Result (Unit {0}) BatchReason). first_to x (step_to (targets >> explain_replay_by cursor e))) is) ∙ after_counts

      pub clean_targets : {r : BatchReason} → known ≡ Err r → Err r ≡ Clean
      clean_targets h = sym (ap (λ (x : Result (Unit {0}) BatchReason). first_to x (step_to (explain_replay_by cursor e))) h) ∙ after_targets

      pub clean_taken : known ≡ Ok tt → {taken : Result (Unit {0}) BatchReason} → taken ≡ step_to (explain_replay_by cursor e) → taken ≡ Clean
      clean_taken h takes = takes ∙ sym (ap (λ (x : Result (Unit {0}) BatchReason). first_to x (step_to (explain_replay_by cursor e))) h) ∙ after_targets

  -- all three at once, whatever each answers
  pub clean_by_is : {counts known taken both r : Result (Unit {0}) BatchReason} → counts ≡ step_to (explain_counts_by l e declared n k) → known ≡ step_to (targets_known absent (walk_patches (tested (target_known c)) 0 tt ps)) → taken ≡ step_to (explain_replay_by cursor e)
      → both ≡ first_to known taken → r ≡ first_to counts both → r ≡ step_to (clean_by c l cursor e declared n k absent ps)
  unfolding clean_by
  clean_by_is counted known taken both r =
      let targets = targets_known absent (walk_patches (tested (target_known c)) 0 tt ps) in
      r ∙ ap₂ first_to counted (both ∙ ap₂ first_to known taken ∙ first_then targets (explain_replay_by cursor e)) ∙ first_then (explain_counts_by l e declared n k) (targets >> explain_replay_by cursor e)

module _ (ed : Edition) (id : ℕ) (l : Limits) (life : Lifecycle) (cursor : Cursor) (c : Catalogue) (e : BatchEnvelope) (declared : ℕ) (set : List ℕ) {pre : Result (Unit {0}) BatchReason} (told : pre ≡ step_to (explain_preflight_by id l life e)) where
  whole : first_to pre (step_to (set_by ed c l cursor e declared set)) ≡ step_to (checks_by ed id l life cursor c e declared set)
  unfolding checks_by
  whole = ap (λ (x : Result (Unit {0}) BatchReason). first_to x (step_to (set_by ed c l cursor e declared set))) told ∙ first_then (explain_preflight_by id l life e) (set_by ed c l cursor e declared set)

  pub checks_because : {r : BatchReason} → pre ≡ Err r → Err r ≡ step_to (checks_by ed id l life cursor c e declared set)
  checks_because is = sym (ap (λ (x : Result (Unit {0}) BatchReason). first_to x (step_to (set_by ed c l cursor e declared set))) is) ∙ whole

  pub checks_fine : {r : Result (Unit {0}) BatchReason} → pre ≡ Ok tt → r ≡ step_to (set_by ed c l cursor e declared set) → r ≡ step_to (checks_by ed id l life cursor c e declared set)
  checks_fine is by = by ∙ sym (ap (λ (x : Result (Unit {0}) BatchReason). first_to x (step_to (set_by ed c l cursor e declared set))) is) ∙ whole

-- ---- the set

module _ (ed : Edition) (set nodes bindings collections : List ℕ) where
  -- what the pass over a set tells
  data Inspected : Result SetInspection ProjectionPatchReadFault → Type 0 where
    unread : (f : ProjectionPatchReadFault) (u : Unread) → locate ed set ≡ some u → Inspected (Err f)
    some_found : (ps : List Patch) → read_set ed set ≡ patches ps → locate ed set ≡ none → (f : Finding) (fs : List Finding) → (findings ps).found ≡ f ∷ fs → Inspected (Ok inspection.Found)
    clean : (ps : List Patch) → read_set ed set ≡ patches ps → locate ed set ≡ none → (findings ps).found ≡ [] → Inspected (Ok (inspection.Clean (length ps) (operation_count_lem ps) (absent_of (anchored nodes bindings collections) (operations_of ps))))

  inspected : Inspected (inspection_answer nodes bindings collections (read_set ed set))
  unfolding inspected_by is_found
  inspected = go (locate ed set) (read_set ed set) refl refl (locate_agrees ed set)
    where
      by_found : (ps : List Patch) → read_set ed set ≡ patches ps → locate ed set ≡ none → (fs : List Finding) → (findings ps).found ≡ fs
          → Inspected (Ok (if not (is_empty fs) then inspection.Found else inspection.Clean (length ps) (operation_count_lem ps) (absent_of (anchored nodes bindings collections) (operations_of ps))))
      by_found ps r l [] e = clean ps r l e
      by_found ps r l (f ∷ fs) e = some_found ps r l f fs e

      go : (o : Option Unread) (x : SetReading) → locate ed set ≡ o → read_set ed set ≡ x → Agrees ed o x → Inspected (inspection_answer nodes bindings collections x)
      go (some u) (patches ps) l r x7 = elim x7 [ ]
      go none (fault f) l r x8 = elim x8 [ ]
      go none (patches ps) l r (reads qs) = by_found ps r l (findings ps).found refl
      go (some u) (fault f) l r (stops v g is) = unread (fault_to f) u l

  module _ (c : Catalogue) (lent : Lent c nodes bindings collections) (l : Limits) (cursor : Cursor) (e : BatchEnvelope) (declared : ℕ) {i : Result SetInspection ProjectionPatchReadFault} (told : i ≡ inspection_answer nodes bindings collections (read_set ed set)) where
    abbrev Whole : Result (Unit {0}) BatchReason
    Whole = step_to (set_by ed c l cursor e declared set)

    here : Inspected i
    here = subst Inspected (sym told) inspected

    pub set_unread : {f : ProjectionPatchReadFault} → i ≡ Err f → found_to (explain_check ed set) ≡ Whole
    unfolding set_by explain_check patches_readable reason_of
    set_unread {f} is = go i here is
      where
        go : (j : Result SetInspection ProjectionPatchReadFault) → Inspected j → j ≡ Err f → found_to (explain_check ed set) ≡ Whole
        go j (unread g u l) is = rw l
        go j (some_found ps r l f fs e) is = absurd (let z : ◌≡◌ {A = ℕ} 0 1 = cc in omega arith)
        go j (clean ps r l e) is = absurd (let z : ◌≡◌ {A = ℕ} 0 1 = cc in omega arith)

    pub set_found : i ≡ Ok inspection.Found → (r : Result (Unit {0}) BatchReason) → ((ps : List Patch) → read_set ed set ≡ patches ps → r ≡ step_to (no_findings (findings ps).place (findings ps).found)) → r ≡ Whole
    unfolding set_by patches_readable patches_read no_findings
    set_found is r by = go i here is
      where
        go : (j : Result SetInspection ProjectionPatchReadFault) → Inspected j → j ≡ Ok inspection.Found → r ≡ Whole
        go j (unread f u l) is = absurd (let z : ◌≡◌ {A = ℕ} 0 1 = cc in omega arith)
        go j (some_found ps s l f fs e) is = by ps s ∙ rw (l, s, e)
        go j (clean ps s l e) is = absurd (let z : ◌≡◌ {A = ℕ} 0 1 = cc in omega arith)

    pub set_clean : {n k absent : ℕ} → i ≡ Ok (inspection.Clean n k absent) → (r : Result (Unit {0}) BatchReason) → ((ps : List Patch) → read_set ed set ≡ patches ps → r ≡ step_to (clean_by c l cursor e declared n k absent ps)) → r ≡ Whole
    unfolding set_by patches_readable patches_read no_findings
    set_clean {n} {k} {absent} is r by = go i here is
      where
        go : (j : Result SetInspection ProjectionPatchReadFault) → Inspected j → j ≡ Ok (inspection.Clean n k absent) → r ≡ Whole
        go j (unread f u l) is = absurd (let z : ◌≡◌ {A = ℕ} 0 1 = cc in omega arith)
        go j (some_found ps s l f fs e) is = absurd (let z : ◌≡◌ {A = ℕ} 0 1 = cc in omega arith)
        go j (clean ps s located None-found) is =
            let patches_are : n ≡ length ps = cc in
            let operations_are : k ≡ operation_count_lem ps = cc in
            let absent-are : absent ≡ absent_of (anchored nodes bindings collections) (operations_of ps) = cc in
            by ps s ∙ (λ j. step_to (clean_by c l cursor e declared (patches_are j) ((operations_are ∙ operations_counted ps) j) ((absent-are ∙ absent_is c nodes bindings collections lent (operations_of ps)) j) ps)) ∙ sym (rw (located, s, None-found))

-- ---- all of them

assoc_three : (a b c x y : Explained (Unit {0})) → (((a >> (b >> c)) >> x) >> y) ≡ (a >> (b >> (c >> (x >> y))))
assoc_three (because r) b c x y = refl
assoc_three (fine u) (because r) c x y = refl
assoc_three (fine u) (fine v) (because r) x y = refl
assoc_three (fine u) (fine v) (fine w) x y = refl

assoc_five : (a b c d e y : Explained (Unit {0})) → ((a >> ((b >> c) >> (d >> e))) >> y) ≡ (a >> (b >> (c >> (d >> (e >> y)))))
assoc_five (because r) b c d e y = refl
assoc_five (fine u) (because r) c d e y = refl
assoc_five (fine u) (fine v) (because r) d e y = refl
assoc_five (fine u) (fine v) (fine w) (because r) e y = refl
assoc_five (fine u) (fine v) (fine w) (fine x) (because r) y = refl
assoc_five (fine u) (fine v) (fine w) (fine x) (fine z) y = refl

-- what follows a set that is read goes by its patches
after_reading : (o : Option Unread) (qs : List Patch) (f g h : List Patch → Explained (Unit {0})) → (f qs >> g qs) ≡ h qs → ((patches_readable o qs >>= f) >> g qs) ≡ (patches_readable o qs >>= h)
unfolding patches_readable
after_reading none qs f g h e = e
after_reading (some u) qs f g h e = refl

module _ (ed : Edition) (s : Session) (e : BatchEnvelope) (declared : ℕ) (set : List ℕ) where
  abbrev pub check_steps : Explained (Unit {0})
  check_steps = checks_by ed s.id s.limits s.lifecycle s.cursor s.catalogue e declared set

  abbrev pub operation_steps : List Patch → Explained (Unit {0})
  operation_steps ps = applies (walk_patches step_kept 0 s.projection ps)

  pub steps_are : explain_steps ed s e declared set ≡ (check_steps >> operation_steps (patches_read (read_set ed set)))
  unfolding explain_steps checks_by explain_preflight_by declared_by set_by clean_by explain_counts_by references_by explain_replay_by over_declared
  steps_are =
      let own = require_or (eqb e.session s.id) (foreign_session e.session s.id) in
      let open' = require_or (not (is_closed s.lifecycle)) session_closed in
      let within = declared_by s.limits e in
      let qs = patches_read (read_set ed set) in
      let clean : List Patch → Explained (Unit {0}) = λ ps. no_findings (findings ps).place (findings ps).found >> clean_by s.catalogue s.limits s.cursor e declared (length ps) (length (operations_of ps)) (absent_targets s.catalogue (operations_of ps)) ps in
      sym (assoc_three own open' within (set_by ed s.catalogue s.limits s.cursor e declared set) (operation_steps qs)
      ∙ ap (λ (x : Explained (Unit {0})). own >> (open' >> (within >> x)))
      (after_reading (locate ed set) qs clean operation_steps _
      (assoc_five (no_findings (findings qs).place (findings qs).found)
      (require_or (eqb e.patches (length qs) && eqb declared (length (operations_of qs))) (counts_differ e.patches (length qs) declared (length (operations_of qs))))
      (references_by s.limits (length (operations_of qs)))
      (targets_known (absent_targets s.catalogue (operations_of qs)) (walk_patches (tested (target_known s.catalogue)) 0 tt qs))
      (explain_replay_by s.cursor e) (operation_steps qs))))

  -- a set that passes the checks is read
  pub checks_read : step_to check_steps ≡ Ok tt → (ps : List Patch) × (read_set ed set ≡ patches ps)
  unfolding checks_by set_by patches_readable
  checks_read is = go (explain_preflight_by s.id s.limits s.lifecycle e) (locate ed set) (read_set ed set) refl (locate_agrees ed set) is
    where
      after : List Patch → Explained (Unit {0})
      after ps = no_findings (findings ps).place (findings ps).found >> clean_by s.catalogue s.limits s.cursor e declared (length ps) (length (operations_of ps)) (absent_targets s.catalogue (operations_of ps)) ps

      go : (a : Explained (Unit {0})) (o : Option Unread) (x : SetReading) → read_set ed set ≡ x → Agrees ed o x → step_to (a >> (patches_readable o (patches_read x) >>= after)) ≡ Ok tt → (ps : List Patch) × (read_set ed set ≡ patches ps)
      go (fine u) (some v) (patches ps) q g h = elim g [ ]
      go (fine u) none (fault f) q g h = elim g [ ]
      go (because r) o x q g h = absurd (let z : ◌≡◌ {A = ℕ} 0 1 = cc in omega arith)
      go (fine u) none (patches ps) q (reads qs) h = (ps, q)
      go (fine u) (some v) (fault f) q (stops w k j) h = absurd (let z : ◌≡◌ {A = ℕ} 0 1 = cc in omega arith)
