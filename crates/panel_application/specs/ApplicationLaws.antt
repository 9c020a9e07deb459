-- Laws of what a set does: the refusals' numbers, and what the quick check decides.
use Rattle.std.specs.Prelude as code
use Rattle.std.specs.Prelude.{ℕ, Bool, List, [], ◌∷◌, eqb, length, if◌then◌else◌}
use Rattle.std.proofs.Math.Path.{◌≡◌, refl, ap, subst}
use Rattle.std.proofs.Common.{sym, ◌∙◌, arith}
use Rattle.std.proofs.Math.Bool.{true, false, not}
use Rattle.spec_lists.specs.Lists.{any, is_empty}
use Rattle.spec_patch.specs.Patch.{Patch}
use Rattle.spec_patch.specs.Edition.{Edition}
use Rattle.spec_patch.specs.Reader.{fault_number}
use Rattle.spec_patch.specs.Read.{SetReading, patches, fault, read_set}
use Rattle.spec_checks.specs.Findings.{findings}
use Rattle.spec_projection.specs.Projection.{Projection}
use Rattle.spec_projection.specs.Apply.{Outcome, done, stopped, operation_fault_number, replay_steps, apply_steps}
use Rattle.projection_patch.specs.ReadAnswers as reading
use Rattle.projection_patch.specs.FaultLaws.{fault_back}
use Rattle.projection_patch.specs.declared.read_values.ProjectionPatchReadFault.{ProjectionPatchReadFault}
use Rattle.projection_patch.specs.declared.read_values.ProjectionPatchReadFault.TheVariants.{Malformed, OverCapacity}
use Rattle.check_findings.specs.Found.{is_found}
use Rattle.check_quick.specs.QuickAnswers.{quick_answer}
use Rattle.check_quick.specs.declared.quick_set.QuickCheck.{QuickCheck}
use Rattle.check_quick.specs.declared.quick_set.QuickCheck.TheVariants as quick
use Rattle.patch_sets.specs.SetAnswers.{operation_count_lem}
use Rattle.local_projection_state.specs.declared.LocalProjectionState.{LocalProjectionState}
use Rattle.local_projection_state.specs.declared.LocalProjectionApplicationError.TheVariants.{KeyRule, ProjectionFull}
use Rattle.panel_application.specs.Application.{refused, set_outcome, apply_reading, apply_set, refusal_number, outcome_number, StepsBecame, SetBecame}
use Rattle.panel_application.specs.declared.ProjectionRefusal.{ProjectionRefusal}
use Rattle.panel_application.specs.declared.ProjectionRefusal.TheVariants.{Operation, Findings, Unreadable}

-- the numbers of this call
pub outcome_numbers : (o : code.Result (Unit {0}) ProjectionRefusal) → any (eqb (outcome_number o)) (0 ∷ 8 ∷ 9 ∷ 10 ∷ 11 ∷ 12 ∷ []) ≡ true
unfolding outcome_number refusal_number operation_fault_number fault_number
outcome_numbers (code.Ok u) = refl
outcome_numbers (code.Err (Operation KeyRule)) = refl
outcome_numbers (code.Err (Operation ProjectionFull)) = refl
outcome_numbers (code.Err Findings) = refl
outcome_numbers (code.Err (Unreadable Malformed)) = refl
outcome_numbers (code.Err (Unreadable OverCapacity)) = refl

-- the answer of the steps is the answer of the set
steps_set : (next : LocalProjectionState) (o : code.Result (Unit {0}) ProjectionRefusal) (x : Outcome) → StepsBecame next o x → SetBecame next o (set_outcome x)
unfolding set_outcome outcome_number refusal_number
steps_set next (code.Ok u) (done q) h = (refl, h)
steps_set next (code.Ok u) (stopped f) h = absurd h
steps_set next (code.Err (Operation e)) (done q) h = absurd h
steps_set next (code.Err (Operation e)) (stopped f) h = ap operation_fault_number h
steps_set next (code.Err Findings) x h = absurd h
steps_set next (code.Err (Unreadable f)) x h = absurd h

-- ---- by the quick check's answer

-- what a clean answer says of the reading
record CleanReading (p : Projection) (r : SetReading) : Type 0 where
  pub ps : List Patch
  pub readable : r ≡ patches ps
  pub outcome : apply_reading p r ≡ set_outcome (apply_steps p (replay_steps ps))

module _ (p : Projection) where
  clean_reading : (r : SetReading) (n m : ℕ) → code.Ok (quick.Clean n m) ≡ quick_answer r → CleanReading p r
  unfolding apply_reading is_found
  clean_reading (fault f) n m e = absurd (let z : ◌≡◌ {A = ℕ} 0 1 = cc in omega arith)
  clean_reading (patches ps) n m e = go (is_empty (findings ps).found) refl e
    where
      go : (t : Bool) → is_empty (findings ps).found ≡ t → ◌≡◌ {A = code.Result QuickCheck ProjectionPatchReadFault} (code.Ok (quick.Clean n m)) (code.Ok (if not t then quick.Found else quick.Clean (length ps) (operation_count_lem ps))) → CleanReading p (patches ps)
      go true is e = record { ps = ps; readable = refl; outcome = rw is }
      go false is e = absurd (let z : ◌≡◌ {A = ℕ} 0 1 = cc in omega arith)

  found_reading : (r : SetReading) → code.Ok quick.Found ≡ quick_answer r → apply_reading p r ≡ refused 11
  unfolding apply_reading is_found
  found_reading (fault f) e = absurd (let z : ◌≡◌ {A = ℕ} 0 1 = cc in omega arith)
  found_reading (patches ps) e = go (is_empty (findings ps).found) refl e
    where
      go : (t : Bool) → is_empty (findings ps).found ≡ t → ◌≡◌ {A = code.Result QuickCheck ProjectionPatchReadFault} (code.Ok quick.Found) (code.Ok (if not t then quick.Found else quick.Clean (length ps) (operation_count_lem ps))) → apply_reading p (patches ps) ≡ refused 11
      go true is e = absurd (let z : ◌≡◌ {A = ℕ} 0 1 = cc in omega arith)
      go false is e = rw is

  refused_reading : (r : SetReading) (f : ProjectionPatchReadFault) → code.Err f ≡ quick_answer r → apply_reading p r ≡ refused (fault_number (reading.fault_of f))
  unfolding apply_reading is_found
  refused_reading (fault g) f e =
      let same : reading.fault_to g ≡ f = cc in
      ap (λ x. refused (fault_number x)) (sym (fault_back g) ∙ ap reading.fault_of same)
  refused_reading (patches ps) f e = go (is_empty (findings ps).found) e
    where
      go : (t : Bool) → code.Err f ≡ code.Ok (if not t then quick.Found else quick.Clean (length ps) (operation_count_lem ps)) → apply_reading p (patches ps) ≡ refused (fault_number (reading.fault_of f))
      go true e = absurd (let z : ◌≡◌ {A = ℕ} 0 1 = cc in omega arith)
      go false e = absurd (let z : ◌≡◌ {A = ℕ} 0 1 = cc in omega arith)

  module _ (ed : Edition) (set : List ℕ) (c : code.Result QuickCheck ProjectionPatchReadFault) (answer_is : c ≡ quick_answer (read_set ed set)) (next : LocalProjectionState) where
    pub clean_became : (n m : ℕ) → c ≡ code.Ok (quick.Clean n m) → (o : code.Result (Unit {0}) ProjectionRefusal) → ((ps : List Patch) → read_set ed set ≡ patches ps → StepsBecame next o (apply_steps p (replay_steps ps))) → SetBecame next o (apply_set ed p set)
    unfolding apply_set
    clean_became n m e o told =
        let k = clean_reading (read_set ed set) n m (sym e ∙ answer_is) in
        subst (SetBecame next o) (sym k.outcome) (steps_set next o (apply_steps p (replay_steps k.ps)) (told k.ps k.readable))

    pub found_became : c ≡ code.Ok quick.Found → SetBecame next (code.Err Findings) (apply_set ed p set)
    unfolding apply_set outcome_number refusal_number
    found_became e = subst (SetBecame next (code.Err Findings)) (sym (found_reading (read_set ed set) (sym e ∙ answer_is))) refl

    pub refused_became : (f : ProjectionPatchReadFault) → c ≡ code.Err f → SetBecame next (code.Err (Unreadable f)) (apply_set ed p set)
    unfolding apply_set outcome_number refusal_number
    refused_became f e = subst (SetBecame next (code.Err (Unreadable f))) (sym (refused_reading (read_set ed set) f (sym e ∙ answer_is))) refl
