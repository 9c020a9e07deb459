-- A step of a strict walk reads what is left from the front: what is left behind it answers as what was left before, whatever the edition.
use Rattle.std.specs.Prelude as code
use Rattle.std.specs.Prelude.{ℕ, suc, ◌+◌, ◌-◌, ◌≤◌, ◌<◌, ◌≡◌, true, leb, ltb, drop}
use Rattle.std.proofs.Math.Path.{refl, sym, ap, ap₂}
use Rattle.std.proofs.Common.{◌∙◌, subst, drop-drop}
use mathlib.Core.List.{List, [], ◌∷◌}
use native.Mathlib.Omega.{arith}
use borrow.Author.Tests.{ltb-true, ltb-false}
use Rattle.std.proofs.Math.ListN.{length, drop_of_length-le}
use Rattle.std.proofs.Math.Seq.{drop-cons}
use Rattle.spec_lists.specs.Bytes.{Bytes}
use Rattle.spec_lists.proofs.BytesLaws.{bytes_drop}
use Rattle.spec_lists.proofs.ListLaws.{test_cases}
use Rattle.spec_patch.specs.Sizes.{set_bytes}
use Rattle.spec_patch.specs.Patch.{Operation, Envelope, Patch}
use Rattle.spec_patch.specs.Edition.{Edition}
use Rattle.spec_patch.specs.Reader.{Fault, Result, read, refused, Reader, onward, many}
use Rattle.spec_patch.specs.Read.{read_operation, to_patch, read_patch, ended, read_set}
use Rattle.spec_patch.proofs.Codec.{Codec, suffix, many_codec}
use Rattle.spec_patch.proofs.ReadLaws.{operation_codec, patch_codec}
use Rattle.projection_patch.specs.Meaning.{operation_to}
use Rattle.projection_patch.specs.ReadAnswers.{fault_to, answer, anywhere, plain}
use Rattle.patch_sets.specs.Walk.{read_heading, read_head}
use Rattle.patch_sets.specs.HeadLaws.{heading_codec, head_codec, patches_by_heading, patch_by_head}
use Rattle.patch_sets.specs.SetAnswers.{head_to, operation_count_lem}
use Rattle.patch_walk.specs.Steps.{OpenAnswer, StepAnswer, made_of, first_cursor, after_operation, after_head, open_answer, operation_step, head_step, step_answer}
use Rattle.patch_walk.specs.SetReads.{CountAnswer, counted, set_answer, read_left, left_answer, left_at, end_answer}
use Rattle.patch_walk.specs.declared.SetCursor.{SetCursor}
use Rattle.patch_walk.specs.declared.SetStep.TheVariants as set-step

-- ---- what is left, on plain bytes

abbrev left : Edition → ℕ → ℕ → ℕ → ℕ → List ℕ → CountAnswer
left ed count done n m bs = left_answer count done (read_left ed n m bs)

module _ (ed : Edition) (count done n m : ℕ) (bs : List ℕ) where
  operation_turn : (o : Operation) (rest : List ℕ) → read_operation ed bs ≡ read o rest → left ed count (done + 1) n m rest ≡ left ed count done (suc n) m bs
  unfolding many
  operation_turn o rest e = rw e (by_operations (many n (read_operation ed) rest))
    where
      by_patches : (os : List Operation) (r : Result (List Patch)) → left_answer count (done + 1) (onward r (λ ps rest. read (os, ps) rest)) ≡ left_answer count done (onward r (λ ps rest. read (o ∷ os, ps) rest))
      by_patches os (read ps []) =
          let same : done + 1 + (length os + operation_count_lem ps) ≡ done + (suc (length os) + operation_count_lem ps) = omega arith in
          ap (counted count) same
      by_patches os (read ps (b ∷ rest)) = refl
      by_patches os (refused f) = refl

      by_operations : (r : Result (List Operation)) → left_answer count (done + 1) (onward r (λ os. λ rest. onward (many m (read_patch ed) rest) (λ ps rest. read (os, ps) rest)))
          ≡ left_answer count done (onward (onward r (λ os rest. read (o ∷ os) rest)) (λ os. λ rest. onward (many m (read_patch ed) rest) (λ ps rest. read (os, ps) rest)))
      by_operations (read os rest) = by_patches os (many m (read_patch ed) rest)
      by_operations (refused f) = refl

  operation_refused : (f : Fault) → read_operation ed bs ≡ refused f → code.Err (fault_to f) ≡ left ed count done (suc n) m bs
  unfolding many
  operation_refused f e = rw e

  head_turn : (h : Envelope × ℕ) (rest : List ℕ) → read_head bs ≡ read h rest → left ed count done h.1 m rest ≡ left ed count done 0 (suc m) bs
  unfolding many operation_count_lem
  head_turn h rest e = rw (patch_by_head ed bs, e) (by_operations (many h.1 (read_operation ed) rest))
    where
      by_patches : (os : List Operation) (r : Result (List Patch)) → left_answer count done (onward r (λ ps rest. read (os, ps) rest))
          ≡ left_answer count done (onward (onward r (λ more rest. read (to_patch (h.0, os) ∷ more) rest)) (λ ps rest. read ([], ps) rest))
      by_patches os (read ps []) =
          let same : done + (length os + operation_count_lem ps) ≡ done + (0 + (length os + operation_count_lem ps)) = omega arith in
          ap (counted count) same
      by_patches os (read ps (b ∷ rest)) = refl
      by_patches os (refused f) = refl

      by_operations : (r : Result (List Operation)) → left_answer count done (onward r (λ os. λ rest. onward (many m (read_patch ed) rest) (λ ps rest. read (os, ps) rest)))
          ≡ left_answer count done (onward (onward (onward r (λ os rest. read (to_patch (h.0, os)) rest)) (λ p rest. onward (many m (read_patch ed) rest) (λ more rest. read (p ∷ more) rest))) (λ ps rest. read ([], ps) rest))
      by_operations (read os rest) = by_patches os (many m (read_patch ed) rest)
      by_operations (refused f) = refl

  head_refused : (f : Fault) → read_head bs ≡ refused f → code.Err (fault_to f) ≡ left ed count done 0 (suc m) bs
  unfolding many
  head_refused f e = rw (patch_by_head ed bs, e)

-- ---- a step

-- what a step tells of what is left
abbrev pub StepLeft : Edition → List ℕ → SetCursor → ℕ → StepAnswer → Type 0
StepLeft ed set c done (code.Ok (set-step.Head h d)) = left_at ed set d done ≡ left_at ed set c done
StepLeft ed set c done (code.Ok (set-step.Operation x d)) = left_at ed set d (done + 1) ≡ left_at ed set c done
StepLeft ed set c done (code.Ok set-step.End) = end_answer (length set) c done ≡ left_at ed set c done
StepLeft ed set c done (code.Err f) = code.Err f ≡ left_at ed set c done

module _ (ed : Edition) (set : List ℕ) (all : Bytes set) (c : SetCursor) (done : ℕ) where
  abbrev bs : List ℕ
  bs = drop c.at set

  abbrev count : ℕ
  count = c.patch_count

  -- the bytes behind what was read
  behind : {A : Type 0} {e : A → List ℕ} {Good : A → Type 0} {p : Reader A} → Codec e Good p → (a : A) (rest : List ℕ) → p bs ≡ read a rest → drop (c.at + (length bs - length rest)) set ≡ rest
  behind codec a rest e = sym (drop-drop (length bs - length rest) c.at set) ∙ suffix codec bs 0 (bytes_drop c.at set all) a rest e

  operation_left : 0 < c.operations_left → StepLeft ed set c done (operation_step true ed c set)
  operation_left some' = go (read_operation ed bs) refl
    where
      n : ℕ
      n = c.operations_left - 1

      again : left ed count done (suc n) c.patches_left bs ≡ left_at ed set c done
      again = let same : suc (c.operations_left - 1) ≡ c.operations_left = omega arith in ap (λ (k : ℕ). left ed count done k c.patches_left bs) same

      go : (r : Result Operation) → read_operation ed bs ≡ r → StepLeft ed set c done (made_of (λ x taken. set-step.Operation x (after_operation c taken)) (answer operation_to (length bs) r))
      go (refused f) e = operation_refused ed count done n c.patches_left bs f e ∙ again
      go (read o rest) e = ap (left ed count (done + 1) n c.patches_left) (behind (operation_codec ed) o rest e) ∙ operation_turn ed count done n c.patches_left bs o rest e ∙ again

  head_left : c.operations_left ≤ 0 → 0 < c.patches_left → StepLeft ed set c done (head_step c set)
  head_left none some' = go (read_head bs) refl
    where
      m : ℕ
      m = c.patches_left - 1

      again : left ed count done 0 (suc m) bs ≡ left_at ed set c done
      again =
          let one : 0 ≡ c.operations_left = omega arith in
          let two : suc (c.patches_left - 1) ≡ c.patches_left = omega arith in
          ap₂ (λ (j k : ℕ). left ed count done j k bs) one two

      go : (r : Result (Envelope × ℕ)) → read_head bs ≡ r → StepLeft ed set c done (made_of (λ h taken. set-step.Head h (after_head c h taken)) (answer (anywhere head_to) (length bs) r))
      go (refused f) e = head_refused ed count done 0 m bs f e ∙ again
      go (read h rest) e = ap (left ed count done h.1 m) (behind head_codec h rest e) ∙ head_turn ed count done 0 m bs h rest e ∙ again

  -- where nothing is left to read
  end_left : c.operations_left ≤ 0 → c.patches_left ≤ 0 → end_answer (length set) c done ≡ left_at ed set c done
  unfolding many operation_count_lem
  end_left none last =
      let one : c.operations_left ≡ 0 = omega arith in
      let two : c.patches_left ≡ 0 = omega arith in
      let same : done ≡ done + (0 + 0) = omega arith in
      rw (one, two)
      (test_cases (ltb c.at (length set))
      (λ t. rw (t, drop-cons set c.at 0 (ltb-true c.at (length set) t)))
      (λ t. rw (t, drop_of_length-le set (ltb-false c.at (length set) t)) (ap (counted count) same)))

  pub step_left : StepLeft ed set c done (step_answer true ed c set)
  unfolding step_answer
  step_left =
      test_cases (ltb 0 c.operations_left)
      (λ t. rw t (operation_left (ltb-true 0 c.operations_left t)))
      (λ t. let none = ltb-false 0 c.operations_left t in test_cases (ltb 0 c.patches_left)
      (λ u. rw (t, u) (head_left none (ltb-true 0 c.patches_left u)))
      (λ u. rw (t, u) (end_left none (ltb-false 0 c.patches_left u))))

-- ---- the opening

abbrev pub OpeningLeft : Edition → List ℕ → OpenAnswer → Type 0
OpeningLeft ed set (code.Ok c) = left_at ed set c 0 ≡ set_answer (read_set ed set)
OpeningLeft ed set (code.Err f) = code.Err f ≡ set_answer (read_set ed set)

module _ (ed : Edition) (set : List ℕ) (all : Bytes set) where
  whole : (n : ℕ) (rest : List ℕ) → Bytes rest → left ed n 0 0 n rest ≡ set_answer (ended (many n (read_patch ed) rest))
  unfolding many ended
  whole n rest h = go (many n (read_patch ed) rest) refl
    where
      go : (r : Result (List Patch)) → many n (read_patch ed) rest ≡ r → left_answer n 0 (onward r (λ ps rest. read ([], ps) rest)) ≡ set_answer (ended r)
      go (read ps []) e =
          let one : n ≡ length ps = sym ((many_codec (patch_codec ed) n).only h ps [] e).0.1 in
          let two : 0 + (0 + operation_count_lem ps) ≡ operation_count_lem ps = omega arith in
          ap₂ counted one two
      go (read ps (b ∷ rest)) e = refl
      go (refused f) e = refl

  pub opening_left : OpeningLeft ed set (open_answer ed set)
  unfolding read_set ended
  opening_left = test_cases (leb (length set) set_bytes) (λ t. rw t (go (read_heading ed set) refl (rw t (ap ended (patches_by_heading ed set))))) (λ t. rw t (rw t))
    where
      go : (r : Result ℕ) → read_heading ed set ≡ r → read_set ed set ≡ ended (onward (read_heading ed set) (λ n. many n (read_patch ed)))
          → OpeningLeft ed set (made_of first_cursor (answer plain (length set) r))
      go (refused f) e is = sym (ap set_answer (is ∙ ap (λ r. ended (onward r (λ n. many n (read_patch ed)))) e))
      go (read n rest) e is =
          let here = suffix (heading_codec ed) set 0 all n rest e in
          ap (left ed n 0 0 n) here
          ∙ whole n rest (subst Bytes here (bytes_drop (length set - length rest) set all))
          ∙ sym (ap set_answer (is ∙ ap (λ r. ended (onward r (λ n. many n (read_patch ed)))) e))
