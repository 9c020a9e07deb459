-- What the passes of a survey say together, and what follows for the writing.
use Prim.Native.Nat.{ℕ, ◌+◌, ◌*◌, ◌≤◌, ◌<◌}
use mathlib.Core.Path.{◌≡◌, refl, sym, ap, ◌∙◌}
use mathlib.Core.Bool.{Bool, true, false, ◌&&◌}
use mathlib.Core.List.{List, [], ◌∷◌}
use native.Mathlib.Omega.{arith}
use borrow.Author.Tests.{leb-true, le-leb, lt-leb}
use lib.Dec.{leb}
use lib.ListN.{length, take}
use lib.Seq.{length-take-le}
use Rattle.std.specs.Prelude.{Result, Ok, Err, if◌then◌else◌}
use Rattle.spec_lists.specs.Lists.{all}
use Rattle.spec_lists.proofs.ListLaws.{and_left, and_right}
use Rattle.spec_patch.specs.Sizes.{set_bytes, set_patches, text_bytes}
use Rattle.spec_patch.specs.Edition.{Edition}
use Rattle.spec_patch.specs.Encode.{encode}
use Rattle.spec_patch.specs.Write as model
use Rattle.projection_patch.specs.declared.patch.ProjectionPatch.{ProjectionPatch}
use Rattle.projection_patch.specs.declared.patch.OperationPlace.{OperationPlace}
use Rattle.projection_patch.specs.declared.patch.ProjectionPatchSet.{ProjectionPatchSet}
use Rattle.projection_patch.specs.declared.text_rule.TextFault.{TextFault}
use Rattle.projection_patch.specs.TextRule.{judged}
use Rattle.patch_part_writer.specs.declared.written.WriteRefusal.{WriteRefusal}
use Rattle.patch_part_writer.specs.declared.written.WriteRefusal.TheVariants as refusal
use Rattle.patch_part_writer.specs.Answer.{write_refusal_of}
use Rattle.patch_part_writer.specs.Extent.{operation_text}
use Rattle.patch_part_writer.specs.ExtentLaws.{operation_small}
use Rattle.patch_writer.specs.Set.{set_places, heads, list_of, used, operation_total, head_sizes, operation_sizes, set_size, few_operations, short_at, inside_at, allowed_at, few_at, counts_fit, capacities_kept, patch_set_bytes}
use Rattle.patch_writer.proofs.CallLaws.{Arrays, allowed_inside}
use Rattle.patch_writer.specs.Survey.{counts, head_survey, judged_values, measured, operation_survey, by_values, surveyed, set_survey}
use Rattle.patch_writer.proofs.Surveyed.{head_small}

-- ---- what an answer says

both_same : {A B : Type 0} {p q : A × B} → ◌≡◌ {A = Result (A × B) WriteRefusal} (Ok p) (Ok q) → p ≡ q
both_same e = cc

first_same : {A B : Type 0} {a c : A} {b d : B} → ◌≡◌ {A = Result (A × B) WriteRefusal} (Ok (a, b)) (Ok (c, d)) → c ≡ a
first_same {A} {B} e = sym (ap (λ (p : A × B). p.0) (both_same e))

second_same : {A B : Type 0} {a c : A} {b d : B} → ◌≡◌ {A = Result (A × B) WriteRefusal} (Ok (a, b)) (Ok (c, d)) → d ≡ b
second_same {A} {B} e = sym (ap (λ (p : A × B). p.1) (both_same e))

pub heads_refused : (hs : List ProjectionPatch) (r : WriteRefusal) → head_survey hs ≡ Err r → (r ≡ refusal.OverCapacity) × (all few_operations hs ≡ false)
unfolding head_survey
heads_refused hs r e = go (all few_operations hs) e
  where
    go : (t : Bool) → (if t then counts (operation_total hs) (head_sizes hs) else Err refusal.OverCapacity) ≡ Err r → (r ≡ refusal.OverCapacity) × (t ≡ false)
    go true e = absurd (let z : ◌≡◌ {A = ℕ} 0 1 = cc in omega arith)
    go false e = (cc, refl)

pub record HeadsWithin (hs : List ProjectionPatch) (operations bytes : ℕ) : Type 0 where
  pub few : all few_operations hs ≡ true
  pub counted : operations ≡ operation_total hs
  pub sized : bytes ≡ head_sizes hs

pub heads_within : (hs : List ProjectionPatch) (operations bytes : ℕ) → head_survey hs ≡ counts operations bytes → HeadsWithin hs operations bytes
unfolding head_survey
heads_within hs operations bytes e = go (all few_operations hs) refl e
  where
    go : (t : Bool) → all few_operations hs ≡ t → (if t then counts (operation_total hs) (head_sizes hs) else Err refusal.OverCapacity) ≡ counts operations bytes → HeadsWithin hs operations bytes
    go true is e = record { few = is; counted = first_same e; sized = second_same e }
    go false is e = absurd (let z : ◌≡◌ {A = ℕ} 0 1 = cc in omega arith)

pub operations_refused : (ed : Edition) (texts : List ℕ) (ps : List OperationPlace) (r : WriteRefusal) → operation_survey ed texts ps ≡ Err r → (r ≡ refusal.OverCapacity) × (all short_at ps ≡ false)
unfolding operation_survey
operations_refused ed texts ps r e = go (all short_at ps) e
  where
    go : (t : Bool) → (if t then measured (operation_sizes ps) (judged_values ed texts ps) else Err refusal.OverCapacity) ≡ Err r → (r ≡ refusal.OverCapacity) × (t ≡ false)
    go true e = absurd (let z : ◌≡◌ {A = ℕ} 0 1 = cc in omega arith)
    go false e = (cc, refl)

pub record OperationsWithin (ed : Edition) (texts : List ℕ) (ps : List OperationPlace) (bytes : ℕ) (judgement : Result (Unit {0}) TextFault) : Type 0 where
  pub short : all short_at ps ≡ true
  pub sized : bytes ≡ operation_sizes ps
  pub verdict : judgement ≡ judged_values ed texts ps

pub operations_within : (ed : Edition) (texts : List ℕ) (ps : List OperationPlace) (bytes : ℕ) (judgement : Result (Unit {0}) TextFault) → operation_survey ed texts ps ≡ measured bytes judgement → OperationsWithin ed texts ps bytes judgement
unfolding operation_survey
operations_within ed texts ps bytes judgement e = go (all short_at ps) refl e
  where
    go : (t : Bool) → all short_at ps ≡ t → (if t then measured (operation_sizes ps) (judged_values ed texts ps) else Err refusal.OverCapacity) ≡ measured bytes judgement → OperationsWithin ed texts ps bytes judgement
    go true is e = record { short = is; sized = first_same e; verdict = second_same e }
    go false is e = absurd (let z : ◌≡◌ {A = ℕ} 0 1 = cc in omega arith)

-- ---- sums stay small

head_sizes_small : (hs : List ProjectionPatch) → head_sizes hs ≤ 69 * length hs
unfolding head_sizes
head_sizes_small [] = omega arith
head_sizes_small (h ∷ hs) = omega (arith, head_small h, head_sizes_small hs)

operation_sizes_small : (ps : List OperationPlace) → all short_at ps ≡ true → operation_sizes ps ≤ (31 + text_bytes) * length ps
unfolding operation_sizes
operation_sizes_small [] e = omega arith
operation_sizes_small (p ∷ ps) e =
    omega (
      arith,
      operation_small p.operation (leb-true (operation_text p.operation).len text_bytes (and_left (short_at p) (all short_at ps) e)),
      operation_sizes_small ps (and_right (short_at p) (all short_at ps) e),
    )

-- ---- the survey of a set

and_no : (a b : Bool) → b ≡ false → (a && b) ≡ false
and_no true b e = e
and_no false b e = refl

module _ (ed : Edition) (texts : List ℕ) (set : ProjectionPatchSet) where
  -- any capacity that is passed
  over : capacities_kept set ≡ false → set_survey ed texts set ≡ Err refusal.OverCapacity
  unfolding set_survey
  over e = rw e

  no_counts : counts_fit set ≡ false → set_survey ed texts set ≡ Err refusal.OverCapacity
  unfolding capacities_kept
  no_counts e = over (ap (λ (t : Bool). t && (all short_at (used set) && leb (set_size set) set_bytes)) e)

  pub many_patches : set_patches < set.patch_count → set_survey ed texts set ≡ Err refusal.OverCapacity
  unfolding counts_fit
  many_patches h = no_counts (rw (lt-leb set.patch_count set_patches h))

  pub many_operations : all few_operations (heads set) ≡ false → set_survey ed texts set ≡ Err refusal.OverCapacity
  unfolding counts_fit
  many_operations e = no_counts (and_no (leb set.patch_count set_patches) _ (ap (λ (t : Bool). t && leb (operation_total (heads set)) set_places) e))

  pub many_places : (operations : ℕ) → operations ≡ operation_total (heads set) → set_places < operations → set_survey ed texts set ≡ Err refusal.OverCapacity
  unfolding counts_fit
  many_places operations e h =
      no_counts (and_no (leb set.patch_count set_patches) _ (and_no (all few_operations (heads set)) _ (lt-leb (operation_total (heads set)) set_places (omega (arith, e)))))

  pub long_text : (operations : ℕ) → operations ≡ operation_total (heads set) → all short_at (take operations set.operations) ≡ false → set_survey ed texts set ≡ Err refusal.OverCapacity
  unfolding capacities_kept
  long_text operations e none =
      let no : all short_at (used set) ≡ false = ap (λ (n : ℕ). all short_at (take n set.operations)) (sym e) ∙ none in
      over (and_no (counts_fit set) _ (ap (λ (t : Bool). t && leb (set_size set) set_bytes) no))

  -- the counts fit and the texts are short
  module _ (operations bytes rest : ℕ) (judgement : Result (Unit {0}) TextFault) (few : set.patch_count ≤ set_patches) (enough : operations ≤ set_places) (hw : HeadsWithin (heads set) operations bytes) (ow : OperationsWithin ed texts (take operations set.operations) rest judgement) where
    -- the bytes and the texts decide
    pub both_passed : surveyed operations (35 + (bytes + rest)) judgement ≡ set_survey ed texts set
    unfolding surveyed set_survey capacities_kept counts_fit set_size
    both_passed =
        let same : take operations set.operations ≡ used set = ap (λ (n : ℕ). take n set.operations) hw.counted in
        let one : leb set.patch_count set_patches ≡ true = le-leb set.patch_count set_patches few in
        let two : leb (operation_total (heads set)) set_places ≡ true = le-leb (operation_total (heads set)) set_places (omega (arith, hw.counted)) in
        let three : all short_at (used set) ≡ true = ap (all short_at) (sym same) ∙ ow.short in
        let size : rest ≡ operation_sizes (used set) = ow.sized ∙ ap operation_sizes same in
        let verdict : judgement ≡ judged_values ed texts (used set) = ow.verdict ∙ ap (judged_values ed texts) same in
        rw (one, hw.few, two, three, hw.counted, hw.sized, size, verdict)

    -- the bytes are few
    pub small_sum : Arrays set → bytes + rest ≤ 69 * set_patches + (31 + text_bytes) * set_places
    small_sum arrays =
        let patches : set.patch_count ≤ length set.patches = omega (arith, arrays.patches) in
        let places : operations ≤ length set.operations = omega (arith, arrays.operations) in
        omega (
          arith,
          hw.sized,
          head_sizes_small (heads set),
          length-take-le set.patch_count set.patches patches,
          ow.sized,
          operation_sizes_small (take operations set.operations) ow.short,
          length-take-le operations set.operations places,
        )

  -- ---- what the survey says of the writing

  pub survey_refused : (r : WriteRefusal) → set_survey ed texts set ≡ Err r → patch_set_bytes ed texts set ≡ model.refused (write_refusal_of r)
  unfolding set_survey patch_set_bytes
  survey_refused r e = go (capacities_kept set) (all (allowed_at ed texts) (used set)) (all (few_at texts) (used set)) e
    where
      told : (w : WriteRefusal) → ◌≡◌ {A = Result (ℕ × ℕ) WriteRefusal} (Err w) (Err r) → model.refused (write_refusal_of w) ≡ model.refused (write_refusal_of r)
      told w e = let is : w ≡ r = cc in ap (λ (x : WriteRefusal). model.refused (write_refusal_of x)) is

      go : (k a f : Bool) → (if k then by_values (operation_total (heads set)) (set_size set) (judged a f) else Err refusal.OverCapacity) ≡ Err r
          → (if k then (if a then (if f then model.wrote (encode ed (list_of texts set)) else model.refused model.over_capacity) else model.refused model.malformed) else model.refused model.over_capacity) ≡ model.refused (write_refusal_of r)
      go true true true e = absurd (let z : ◌≡◌ {A = ℕ} 0 1 = cc in omega arith)
      go true true false e = told refusal.OverCapacity e
      go true false f e = told refusal.Malformed e
      go false a f e = told refusal.OverCapacity e

  pub record SurveyWithin (operations bytes : ℕ) : Type 0 where
    pub fit : counts_fit set ≡ true
    pub short : all short_at (used set) ≡ true
    pub inside : all (inside_at texts) (used set) ≡ true
    pub counted : operations ≡ operation_total (heads set)
    pub sized : bytes ≡ set_size set
    pub result : patch_set_bytes ed texts set ≡ model.wrote (encode ed (list_of texts set))

  pub survey_within : (operations bytes : ℕ) → set_survey ed texts set ≡ counts operations bytes → SurveyWithin operations bytes
  unfolding set_survey patch_set_bytes capacities_kept
  survey_within operations bytes e = go (capacities_kept set) refl (all (allowed_at ed texts) (used set)) refl (all (few_at texts) (used set)) refl e
    where
      go : (k : Bool) → capacities_kept set ≡ k → (a : Bool) → all (allowed_at ed texts) (used set) ≡ a → (f : Bool) → all (few_at texts) (used set) ≡ f
          → (if k then by_values (operation_total (heads set)) (set_size set) (judged a f) else Err refusal.OverCapacity) ≡ counts operations bytes
          → SurveyWithin operations bytes
      go true kept true allowed true few e = record {
        fit = and_left (counts_fit set) _ kept;
        short = and_left (all short_at (used set)) _ (and_right (counts_fit set) _ kept);
        inside = allowed_inside ed texts (used set) allowed;
        counted = first_same e;
        sized = second_same e;
        result = rw (kept, allowed, few);
      }
      go true kept true allowed false few e = absurd (let z : ◌≡◌ {A = ℕ} 0 1 = cc in omega arith)
      go true kept false allowed f few e = absurd (let z : ◌≡◌ {A = ℕ} 0 1 = cc in omega arith)
      go false kept a allowed f few e = absurd (let z : ◌≡◌ {A = ℕ} 0 1 = cc in omega arith)
