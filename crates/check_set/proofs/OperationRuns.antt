-- The findings of a patch's operations, listed one after the other: what is left makes of the table what the whole makes of the first.
use Rattle.std.specs.Prelude as code
use Prim.Native.Nat.{ℕ, ◌+◌, ◌≤◌}
use mathlib.Core.Path.{◌≡◌, refl, sym, ap, ap₂, ◌∙◌}
use mathlib.Core.Bool.{Bool, false}
use mathlib.Core.List.{List, [], ◌∷◌, ◌++◌, flat_map, reverse, reverse-append}
use native.Mathlib.Omega.{arith}
use lib.ListN.{length, take, length-append}
use Rattle.spec_patch.specs.Patch.{Operation, Patch}
use Rattle.spec_patch.specs.Edition.{Edition}
use Rattle.spec_checks.specs.Finding.{Finding, report, check_each}
use Rattle.spec_checks.specs.Target.{MutationTarget, mutation_target}
use Rattle.spec_checks.specs.PatchChecks.{before_self_lem, operation_findings}
use Rattle.projection_patch.specs.Meaning.{operation_of}
use Rattle.projection_patch.specs.declared.patch.ProjectionPatchOperation.{ProjectionPatchOperation}
use Rattle.patch_walk.specs.Steps.{step_answer, AtSteps}
use Rattle.patch_walk.proofs.StepsLaws.{Visited, visited}
use Rattle.patch_walk.specs.declared.SetCursor.{SetCursor}
use Rattle.patch_walk.specs.Steps.{StepAnswer}
use Rattle.patch_walk.specs.declared.SetStep.TheVariants as set-step
use Rattle.check_targets.specs.Targets.{target_numbers, target_seen, with_target}
use Rattle.check_targets.specs.TargetsLaws.{targets_snoc, with_target_front}
use Rattle.check_targets.specs.ToldLaws.{target_told, self_told}
use Rattle.check_findings.specs.EnvelopeChecks.{envelope_row}
use Rattle.check_findings.specs.InsertFindings.{inserted_all}
use Rattle.check_findings.specs.InsertFindingsLaws.{inserted_all_append, Inserted}
use Rattle.check_set.specs.ListedLaws.{listed_operation}

-- the edition and the bytes, the patch's id, its operations and the patches behind it, and the table before
module _ (ed : Edition) (set : List ℕ) (id : ℕ) (os : List Operation) (ps : List Patch) (first : ℕ) (before : List ℕ) where
  abbrev own : List Operation → Operation → List Finding
  own = operation_findings id

  pub record OperationRun (c : SetCursor) (used index kept : ℕ) (targets records : List ℕ) : Type 0 where
    pub done : List Operation
    pub rest : List Operation
    pub here : AtSteps ed set c rest ps
    pub same : inserted_all (check_each own [] os) first before ≡ inserted_all (check_each own (reverse done) rest) kept records
    pub seen : take used targets ≡ flat_map target_numbers done
    pub counted : index ≡ length done

  pub operation_run_start : (c : SetCursor) (targets : List ℕ) → AtSteps ed set c os ps → OperationRun c 0 0 first targets before
  unfolding flat_map
  operation_run_start c targets here = record { done = []; rest = os; here = here; same = refl; seen = refl; counted = refl }

  module _ {c : SetCursor} {used index kept : ℕ} {targets records : List ℕ} (run : OperationRun c used index kept targets records) where
    -- one operation more
    module _ {r : StepAnswer} (answer_is : r ≡ step_answer false ed c set) (x : ProjectionPatchOperation) (d : SetCursor) (told : r ≡ code.Ok (set-step.Operation x d))
        (kept' : ℕ) (targets' records' : List ℕ) (target : MutationTarget) (self seen : Bool) (room : used + 3 ≤ length targets)
        (target-now : target ≡ mutation_target (operation_of [] x))
        (self-now : self ≡ before_self_lem (operation_of [] x))
        (seen-now : seen ≡ target_seen target (take used targets))
        (targets-now : targets' ≡ with_target used target targets)
        (now : Inserted (report self (envelope_row 2 id index) ++ report seen (envelope_row 3 id index)) kept records kept' records') where
      v : Visited ed set c run.rest ps x d
      v = visited false ed set c run.here answer_is x d told

      abbrev o : Operation
      o = v.first

      target_is : target ≡ mutation_target o
      target_is = target-now ∙ ap (λ y. mutation_target (operation_of [] y)) v.placed ∙ target_told [] _ o

      self_is : self ≡ before_self_lem o
      self_is = self-now ∙ ap (λ y. before_self_lem (operation_of [] y)) v.placed ∙ self_told [] _ o

      seen_is : seen ≡ target_seen (mutation_target o) (flat_map target_numbers run.done)
      seen_is = seen-now ∙ ap₂ (λ t l. target_seen t l) target_is run.seen

      list_is : report self (envelope_row 2 id index) ++ report seen (envelope_row 3 id index) ≡ own (reverse run.done) o
      list_is =
          ap₂ (λ (b s : Bool). report b (envelope_row 2 id index) ++ report s (envelope_row 3 id index)) self_is seen_is
          ∙ ap (λ (i : ℕ). report (before_self_lem o) (envelope_row 2 id i) ++ report (target_seen (mutation_target o) (flat_map target_numbers run.done)) (envelope_row 3 id i)) run.counted
          ∙ listed_operation id run.done o

      abbrev rest' : List Finding
      rest' = check_each own (o ∷ reverse run.done) v.rest

      turned : inserted_all (check_each own (reverse run.done) run.rest) kept records ≡ inserted_all rest' kept' records'
      unfolding check_each
      turned =
          ap (λ l. inserted_all (check_each own (reverse run.done) l) kept records) v.is
          ∙ inserted_all_append (own (reverse run.done) o) rest' kept records
          ∙ ap (λ l. inserted_all rest' (inserted_all l kept records).0 (inserted_all l kept records).1) (sym list_is)
          ∙ sym (ap₂ (inserted_all rest') now.0 now.1)

      front : take (used + 3) targets' ≡ flat_map target_numbers (run.done ++ (o ∷ []))
      unfolding target_numbers
      front =
          ap (take (used + 3)) (targets-now ∙ ap (λ t. with_target used t targets) target_is)
          ∙ with_target_front used (mutation_target o) targets room
          ∙ ap (λ l. l ++ target_numbers o) run.seen
          ∙ sym (targets_snoc run.done o)

      pub operation_run_turn : OperationRun d (used + 3) (index + 1) kept' targets' records'
      operation_run_turn = record {
        done = run.done ++ (o ∷ []);
        rest = v.rest;
        here = v.next;
        same = run.same ∙ turned ∙ ap (λ e. inserted_all (check_each own e v.rest) kept' records') (sym (reverse-append run.done (o ∷ [])));
        seen = front;
        counted = omega (arith, run.counted, length-append run.done (o ∷ []));
      }

    -- where none is left
    pub operation_run_end : c.operations_left ≤ 0 → Inserted (check_each own [] os) first before kept records × AtSteps ed set c [] ps
    unfolding check_each inserted_all
    operation_run_end none = go run.rest run.here run.same
      where
        go : (l : List Operation) → AtSteps ed set c l ps → inserted_all (check_each own [] os) first before ≡ inserted_all (check_each own (reverse run.done) l) kept records
            → Inserted (check_each own [] os) first before kept records × AtSteps ed set c [] ps
        go [] here same = ((sym (ap (λ t. t.0) same), sym (ap (λ t. t.1) same)), here)
        go (o ∷ l) here same = absurd (omega (arith, here.operations))
