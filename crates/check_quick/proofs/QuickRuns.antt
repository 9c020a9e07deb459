-- Runs of operations that are read and checked, one turn at a time: what is left to read answers as the whole does.
use Prim.Native.Nat.{ℕ, suc, ◌+◌, ◌-◌, ◌≤◌, ◌<◌}
use mathlib.Core.Path.{◌≡◌, refl, sym, ap, ap₂, ◌∙◌}
use mathlib.Core.Bool.{Bool, false, ◌||◌}
use mathlib.Core.List.{List, [], ◌∷◌, ◌++◌, append_assoc, append-nil, flat_map}
use native.Mathlib.Omega.{arith}
use lib.ListN.{length, drop}
use lib.Seq.{drop-drop}
use Rattle.spec_lists.specs.Bytes.{Bytes}
use Rattle.spec_patch.specs.Patch.{Envelope, Operation}
use Rattle.spec_patch.specs.Edition.{Edition}
use Rattle.spec_patch.specs.Reader.{Result, read, refused, onward, many}
use Rattle.spec_patch.specs.Read.{read_operation, to_patch, read_patch}
use Rattle.spec_patch.proofs.Codec.{many_codec}
use Rattle.spec_patch.proofs.ReadLaws.{operation_codec}
use Rattle.spec_checks.specs.Target.{MutationTarget, mutation_target}
use Rattle.spec_checks.specs.PatchChecks.{before_self_lem}
use Rattle.projection_patch.specs.Meaning.{operation_to, envelope_of, operation_of}
use Rattle.projection_patch.specs.ReadAnswers.{anywhere}
use Rattle.projection_patch.specs.declared.patch.ProjectionPatch.{ProjectionPatch}
use Rattle.projection_patch.specs.declared.patch.ProjectionPatchOperation.{ProjectionPatchOperation}
use Rattle.projection_patch.specs.declared.read_values.ProjectionPatchReadFault.{ProjectionPatchReadFault}
use Rattle.projection_patch.proofs.At.{position}
use Rattle.std.specs.Prelude as code
use Rattle.projection_patch.proofs.Answers.{Got, NotGot, got, not_got}
use Rattle.patch_sets.specs.Walk.{head_of}
use Rattle.patch_sets.specs.SetAnswers.{head_to}
use Rattle.patch_sets.proofs.ReadAt.{HeadReadAt}
use Rattle.check_targets.specs.Targets.{numbers_of, target_numbers, target_seen}
use Rattle.check_targets.specs.ToldLaws.{target_told, self_told, envelope_back}
use Rattle.check_quick.specs.Anchors.{absent_among, absent_of}
use Rattle.check_quick.specs.Quick.{operation_found, found_from, head_found, patch_found}
use Rattle.check_quick.specs.QuickLaws.{or_assoc, or_false}
use Rattle.check_quick.specs.QuickAnswers.{tally_from, tally_of, operations_answer, quick_checked_to, patch_answer}
use Rattle.check_quick.specs.declared.quick_operations.Tally.{Tally}
use Rattle.check_quick.specs.declared.quick_patches.PatchChecked.{PatchChecked}

abbrev OperationsAnswer : Type 0
OperationsAnswer = code.Result (Tally × ℕ) ProjectionPatchReadFault

-- the answer of the operations that are left, after others with a finding or none, and with their targets
abbrev pub quick_left_answer : Edition → (MutationTarget → Bool) → List ℕ → (at left : ℕ) → Bool → List ℕ → OperationsAnswer
quick_left_answer ed known set at left found ts = operations_answer (tally_from known found ts) (length set) (many left (read_operation ed) (drop at set))

abbrev same_answer : Tally → ℕ → OperationsAnswer
same_answer t end = code.Ok (t, end)

module _ (ed : Edition) (known : MutationTarget → Bool) (set : List ℕ) (at left : ℕ) (found : Bool) (ts : List ℕ) where
  -- ---- where nothing is left to read

  pub none_left : at ≤ length set → left ≡ 0 → (absent : ℕ) → absent ≡ absent_among known ts → code.Ok (record { found = found; absent = absent }, at) ≡ quick_left_answer ed known set at left found ts
  unfolding many found_from flat_map
  none_left h none absent all = rw (none, position set at h, or_false found, all, append-nil ts)

  module _ (more : 0 < left) where
    one_more : (r : OperationsAnswer) → r ≡ quick_left_answer ed known set at (suc (left - 1)) found ts → r ≡ quick_left_answer ed known set at left found ts
    one_more r e = let same : suc (left - 1) ≡ left = omega arith in e ∙ ap (λ (n : ℕ). quick_left_answer ed known set at n found ts) same

    pub refusal : (f : ProjectionPatchReadFault) → NotGot (read_operation ed) (drop at set) 0 f → code.Err f ≡ quick_left_answer ed known set at left found ts
    unfolding many
    refusal f g = one_more (code.Err f) (rw (g.is, g.same))

    -- ---- one operation more

    module _ (x : ProjectionPatchOperation) (taken : ℕ) (g : Got (read_operation ed) operation_to (drop at set) 0 x taken) where
      abbrev o : Operation
      o = g.a

      step : quick_left_answer ed known set (at + taken) (left - 1) (found || operation_found ts o) (ts ++ target_numbers o) ≡ quick_left_answer ed known set at left found ts
      unfolding many found_from flat_map
      step = one_more (quick_left_answer ed known set (at + taken) (left - 1) (found || operation_found ts o) (ts ++ target_numbers o))
          (rw (g.is, drop-drop taken at set) (go (many (left - 1) (read_operation ed) (drop (at + taken) set))))
        where
          go : (r : Result (List Operation)) → operations_answer (tally_from known (found || operation_found ts o) (ts ++ target_numbers o)) (length set) r
              ≡ operations_answer (tally_from known found ts) (length set) (onward r (λ os rest. read (o ∷ os) rest))
          go (read os rest) =
              ap₂ (λ (b : Bool) (l : List ℕ). same_answer (record { found = b; absent = absent_among known l }) (length set - length rest))
              (or_assoc found (operation_found ts o) (found_from (ts ++ target_numbers o) os)) (append_assoc ts (target_numbers o) (flat_map target_numbers os))
          go (refused f) = refl

      -- what is told of the operation does not depend on where its text stands
      pub operations_turn : (t : MutationTarget) (found' : Bool) (ts' : List ℕ) → t ≡ mutation_target (operation_of [] x) → found' ≡ (found || (target_seen t ts || before_self_lem (operation_of [] x))) → ts' ≡ ts ++ numbers_of t
          → quick_left_answer ed known set (at + taken) (left - 1) found' ts' ≡ quick_left_answer ed known set at left found ts
      unfolding operation_found target_numbers
      operations_turn t found' ts' target_is found_is ts-are =
          let rest : Bool → List ℕ → OperationsAnswer = quick_left_answer ed known set (at + taken) (left - 1) in
          let target : t ≡ mutation_target o = target_is ∙ sym (ap (λ y. mutation_target (operation_of [] y)) g.same) ∙ target_told [] taken o in
          let self : before_self_lem (operation_of [] x) ≡ before_self_lem o = sym (ap (λ y. before_self_lem (operation_of [] y)) g.same) ∙ self_told [] taken o in
          ap₂ rest found_is ts-are ∙ ap₂ (λ (u : MutationTarget) (b : Bool). rest (found || (target_seen u ts || b)) (ts ++ numbers_of u)) target self ∙ step

-- ---- a patch: its head, then its operations

abbrev patch_told : PatchChecked → ℕ → code.Result (PatchChecked × ℕ) ProjectionPatchReadFault
patch_told x end = code.Ok (x, end)

module _ (ed : Edition) (known : MutationTarget → Bool) (l : List ℕ) (at n : ℕ) {r : OperationsAnswer} (ensured : r ≡ operations_answer (tally_of known) (length l) (many n (read_operation ed) (drop at l))) where
  pub operations_got : Bytes l → {tally : Tally} {end : ℕ} → r ≡ code.Ok (tally, end) → Got (many n (read_operation ed)) (anywhere (tally_of known)) l at tally end
  operations_got bytes {tally} {end} = got (anywhere (tally_of known)) (many_codec (operation_codec ed) n) l at r ensured bytes tally end

  pub no_operations : {f : ProjectionPatchReadFault} → r ≡ code.Err f → NotGot (many n (read_operation ed)) l at f
  no_operations {f} = not_got (anywhere (tally_of known)) (many_codec (operation_codec ed) n) l at r ensured f

module _ (ed : Edition) (known : MutationTarget → Bool) {set : List ℕ} {at taken : ℕ} {head : ProjectionPatch} (front : HeadReadAt set at head taken) where
  pub patch_checked : (os : List Operation) (end : ℕ) → read_patch ed (drop at set) ≡ read (to_patch (front.got.a.0, os)) (drop end set) → length os ≡ head.operation_count → length set - length (drop end set) ≡ end
      → (found : Bool) (absent : ℕ) → found ≡ (head_found (envelope_of head.envelope) head.operation_count || found_from [] os) → absent ≡ absent_of known os
      → code.Ok (record { head = head; found = found; absent = absent }, end) ≡ patch_answer known (length set) (read_patch ed (drop at set))
  unfolding patch_found
  patch_checked os end reads long there found absent found_is absents =
      let h = front.got.a in
      let same = front.got.same in
      let p = to_patch (h.0, os) in
      let heads : head ≡ head_to (head_of p) = sym same ∙ ap (λ (n : ℕ). head_to (h.0, n)) (front.counts ∙ sym long) in
      let own : envelope_of head.envelope ≡ h.0 = sym (ap (λ (x : ProjectionPatch). envelope_of x.envelope) same) ∙ envelope_back h.0 in
      let founds : found ≡ patch_found p = found_is ∙ ap₂ (λ (e : Envelope) (n : ℕ). head_found e n || found_from [] os) own (sym long) in
      let all : ◌≡◌ {A = PatchChecked} (record { head = head; found = found; absent = absent }) (quick_checked_to known p) = λ i. record { head = heads i; found = founds i; absent = absents i } in
      ap₂ (λ (x : PatchChecked) (n : ℕ). patch_told x n) all (sym there) ∙ sym (ap (patch_answer known (length set)) reads)
