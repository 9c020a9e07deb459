-- The two passes of a survey: what is known after the first p heads, and after the first i operations.
use Prim.Native.Nat.{ℕ, ◌+◌, ◌*◌, ◌≤◌, ◌<◌}
use mathlib.Core.Path.{◌≡◌, refl, sym, ap, ◌∙◌}
use mathlib.Core.Bool.{Bool, true, false, ◌&&◌}
use mathlib.Core.List.{List, [], ◌∷◌}
use native.Mathlib.Omega.{arith}
use borrow.Author.Tests.{le-leb, lt-leb}
use lib.ListN.{drop}
use Rattle.spec_lists.specs.Lists.{all}
use Rattle.spec_patch.specs.Sizes.{patch_operations, text_bytes}
use Rattle.spec_patch.specs.Edition.{Edition}
use Rattle.projection_patch.specs.declared.patch.ProjectionPatch.{ProjectionPatch}
use Rattle.projection_patch.specs.declared.patch.OperationPlace.{OperationPlace}
use Rattle.projection_patch.specs.declared.text_rule.TextFault.{TextFault}
use Rattle.projection_patch.specs.declared.text_rule.TextFault.TheVariants.{Malformed, ManyCharacters}
use Rattle.projection_patch.specs.TextRule.{judged}
use Rattle.std.specs.Prelude.{Result, Ok, Err}
use Rattle.patch_part_writer.specs.declared.written.WriteRefusal.TheVariants as refusal
use Rattle.patch_part_writer.specs.Extent.{head_size, operation_size, operation_text}
use Rattle.patch_part_writer.specs.ExtentLaws.{surface_small, operation_small}
use Rattle.patch_writer.specs.Set.{operation_total, head_sizes, operation_sizes, few_operations, short_at, allowed_at, few_at}
use Rattle.patch_writer.specs.Survey.{counts, head_survey, judged_operation, judged_values, worse, measured, operation_survey}

and_false : (a b : Bool) → a ≡ false → (a && b) ≡ false
and_false true b e = absurd (let z : ◌≡◌ {A = ℕ} 0 1 = cc in omega arith)
and_false false b e = refl

and_true : (a b : Bool) → a ≡ true → (a && b) ≡ b
and_true true b e = refl
and_true false b e = absurd (let z : ◌≡◌ {A = ℕ} 0 1 = cc in omega arith)

-- ---- heads

pub record HeadsSeen (hs : List ProjectionPatch) (operations bytes p : ℕ) : Type 0 where
  pub counted : operations + operation_total (drop p hs) ≡ operation_total hs
  pub sized : bytes + head_sizes (drop p hs) ≡ head_sizes hs
  pub tested : all few_operations (drop p hs) ≡ all few_operations hs
  pub few : operations ≤ patch_operations * p
  pub small : bytes ≤ 69 * p

pub head_small : (h : ProjectionPatch) → head_size h ≤ 69
head_small h = omega (arith, surface_small h.envelope.surface_id)

module _ {hs : List ProjectionPatch} {operations bytes p : ℕ} (seen : HeadsSeen hs operations bytes p) where
  module _ (h : ProjectionPatch) (rest : drop p hs ≡ h ∷ drop (p + 1) hs) where
    pub heads_next : h.operation_count ≤ patch_operations → HeadsSeen hs (operations + h.operation_count) (bytes + head_size h) (p + 1)
    unfolding operation_total head_sizes
    heads_next fits = record {
      counted = omega (arith, seen.counted, ap operation_total rest);
      sized = omega (arith, seen.sized, ap head_sizes rest);
      tested = sym (ap (all few_operations) rest ∙ and_true (few_operations h) (all few_operations (drop (p + 1) hs)) (le-leb h.operation_count patch_operations fits)) ∙ seen.tested;
      few = omega (arith, seen.few);
      small = omega (arith, seen.small, head_small h);
    }

    pub heads_over : patch_operations < h.operation_count → head_survey hs ≡ Err refusal.OverCapacity
    unfolding head_survey
    heads_over over =
        let no : all few_operations hs ≡ false =
        sym seen.tested ∙ ap (all few_operations) rest ∙ and_false (few_operations h) (all few_operations (drop (p + 1) hs)) (lt-leb h.operation_count patch_operations over) in
        rw no

  pub heads_end : drop p hs ≡ [] → head_survey hs ≡ counts operations bytes
  unfolding head_survey operation_total head_sizes
  heads_end none =
      let total : operation_total hs ≡ operations = omega (arith, seen.counted, ap operation_total none) in
      let size : head_sizes hs ≡ bytes = omega (arith, seen.sized, ap head_sizes none) in
      let every : all few_operations hs ≡ true = sym seen.tested ∙ ap (all few_operations) none in
      rw (every, total, size)

-- ---- operations

-- judgements come together in any order of brackets
worse_assoc : (a b c : Result (Unit {0}) TextFault) → worse (worse a b) c ≡ worse a (worse b c)
worse_assoc (Ok tt) b c = refl
worse_assoc (Err Malformed) b c = refl
worse_assoc (Err ManyCharacters) (Ok tt) c = refl
worse_assoc (Err ManyCharacters) (Err Malformed) c = refl
worse_assoc (Err ManyCharacters) (Err ManyCharacters) (Ok tt) = refl
worse_assoc (Err ManyCharacters) (Err ManyCharacters) (Err f) = refl

worse_fits : (a : Result (Unit {0}) TextFault) → worse a (Ok tt) ≡ a
worse_fits (Ok tt) = refl
worse_fits (Err Malformed) = refl
worse_fits (Err ManyCharacters) = refl

-- the tests of two, one by one and together
worse_judged : (a b c d : Bool) → worse (judged a b) (judged c d) ≡ judged (a && c) (b && d)
worse_judged true true c d = refl
worse_judged true false true true = refl
worse_judged true false true false = refl
worse_judged true false false d = refl
worse_judged false b c d = refl

judged_first : (ed : Edition) (texts : List ℕ) (x : OperationPlace) (ps : List OperationPlace)
    → worse (judged_operation ed texts x.operation) (judged_values ed texts ps) ≡ judged_values ed texts (x ∷ ps)
unfolding judged_operation
judged_first ed texts x ps = worse_judged (allowed_at ed texts x) (few_at texts x) (all (allowed_at ed texts) ps) (all (few_at texts) ps)

pub record OperationsSeen (ed : Edition) (texts : List ℕ) (ps : List OperationPlace) (bytes : ℕ) (judgement : Result (Unit {0}) TextFault) (i : ℕ) : Type 0 where
  pub sized : bytes + operation_sizes (drop i ps) ≡ operation_sizes ps
  pub tested : all short_at (drop i ps) ≡ all short_at ps
  pub together : worse judgement (judged_values ed texts (drop i ps)) ≡ judged_values ed texts ps
  pub small : bytes ≤ (31 + text_bytes) * i

module _ {ed : Edition} {texts : List ℕ} {ps : List OperationPlace} {bytes : ℕ} {judgement : Result (Unit {0}) TextFault} {i : ℕ} (seen : OperationsSeen ed texts ps bytes judgement i) where
  module _ (x : OperationPlace) (rest : drop i ps ≡ x ∷ drop (i + 1) ps) where
    pub operations_next : (operation_text x.operation).len ≤ text_bytes → OperationsSeen ed texts ps (bytes + operation_size x.operation) (worse judgement (judged_operation ed texts x.operation)) (i + 1)
    unfolding operation_sizes
    operations_next short = record {
      sized = omega (arith, seen.sized, ap operation_sizes rest);
      tested = sym (ap (all short_at) rest ∙ and_true (short_at x) (all short_at (drop (i + 1) ps)) (le-leb (operation_text x.operation).len text_bytes short)) ∙ seen.tested;
      together =
          worse_assoc judgement (judged_operation ed texts x.operation) (judged_values ed texts (drop (i + 1) ps))
          ∙ ap (worse judgement) (judged_first ed texts x (drop (i + 1) ps))
          ∙ sym (ap (λ (l : List OperationPlace). worse judgement (judged_values ed texts l)) rest)
          ∙ seen.together;
      small = omega (arith, seen.small, operation_small x.operation short);
    }

    pub operations_over : text_bytes < (operation_text x.operation).len → operation_survey ed texts ps ≡ Err refusal.OverCapacity
    unfolding operation_survey
    operations_over over =
        let no : all short_at ps ≡ false =
        sym seen.tested ∙ ap (all short_at) rest ∙ and_false (short_at x) (all short_at (drop (i + 1) ps)) (lt-leb (operation_text x.operation).len text_bytes over) in
        rw no

  pub operations_end : drop i ps ≡ [] → operation_survey ed texts ps ≡ measured bytes judgement
  unfolding operation_survey operation_sizes
  operations_end none =
      let size : operation_sizes ps ≡ bytes = omega (arith, seen.sized, ap operation_sizes none) in
      let every : all short_at ps ≡ true = sym seen.tested ∙ ap (all short_at) none in
      let verdict : judged_values ed texts ps ≡ judgement = sym seen.together ∙ ap (λ (l : List OperationPlace). worse judgement (judged_values ed texts l)) none ∙ worse_fits judgement in
      rw (every, size, verdict)
