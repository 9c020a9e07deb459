-- The set of one patch: its bytes in their parts, what is found of it, and what is told of it by both.
use Rattle.std.specs.Prelude.{ℕ, ◌+◌, ◌≤◌, Bool, ◌||◌, Result, Ok, Err, if◌then◌else◌}
use Rattle.std.proofs.Math.Path.{◌≡◌, refl, sym, ap}
use Rattle.std.proofs.Common.{◌∙◌, arith, length-append}
use Rattle.std.proofs.Math.Bool.{true, false, not}
use mathlib.Core.List.{List, [], ◌++◌, append_assoc, append-nil, map, flat_map}
use borrow.Author.Tests.{leb-true}
use Rattle.std.proofs.Math.Dec.{leb}
use Rattle.std.proofs.Math.ListN.{length}
use Rattle.std.proofs.lemmas.List.{length-map}
use Rattle.spec_lists.specs.Lists.{is_empty}
use Rattle.spec_lists.proofs.ListLaws.{test_cases}
use Rattle.spec_patch.specs.Sizes.{set_bytes}
use Rattle.spec_patch.specs.Patch.{Envelope}
use Rattle.spec_patch.specs.Edition.{Edition}
use Rattle.spec_patch.specs.Encode.{u32, heading, encode_envelope, encode_counted, encode_patch, encode}
use Rattle.spec_checks.specs.Findings.{findings}
use Rattle.spec_import.specs.Import as model
use Rattle.spec_import.specs.Import.{Term, insert_of, patch_of, import_patch, set_of}
use Rattle.projection_patch.specs.Meaning.{envelope_of}
use Rattle.projection_patch.specs.declared.patch.ProjectionPatch.{ProjectionPatch}
use Rattle.patch_part_writer.specs.Extent.{head_size}
use Rattle.patch_part_writer.specs.ExtentLaws.{length_heading, length_head}
use Rattle.check_findings.specs.Ids.{id_seen}
use Rattle.check_findings.specs.Found.{is_found}
use Rattle.check_quick.specs.Quick.{found_from, head_found, patch_found, previous_found, after_found, patches_found}
use Rattle.check_quick.specs.QuickLaws.{or_false, quick_found}
use Rattle.patch_import.specs.declared.answer.ImportRefusal.{ImportRefusal}
use Rattle.patch_import.specs.declared.answer.ImportRefusal.TheVariants as refusal
use Rattle.patch_import.specs.Answers.{import_refusal_of}
use Rattle.patch_import.specs.Survey.{insert_bytes}
use Rattle.patch_import.specs.Judgement.{judged_patch}

regrouped : (a b c d x : List ℕ) → a ++ (b ++ ((c ++ (d ++ x)) ++ [])) ≡ ((a ++ b) ++ (c ++ d)) ++ x
regrouped a b c d x = simp (append_assoc, append-nil)

module _ (ed : Edition) (collection : ℕ) (patch : ProjectionPatch) (ts : List Term) (counted : patch.operation_count ≡ length ts) where
  abbrev e : Envelope
  e = envelope_of patch.envelope

  abbrev bytes : List ℕ
  bytes = encode ed (set_of collection e ts)

  many : length (map (insert_of collection) ts) ≡ patch.operation_count
  many = length-map ts (insert_of collection) ∙ sym counted

  -- the heading with the patch count, the head, and the operations
  pub import_parts : bytes ≡ ((heading ed ++ u32 1) ++ (encode_envelope e ++ u32 patch.operation_count)) ++ insert_bytes collection ts
  unfolding encode encode_counted encode_patch patch_of insert_bytes flat_map
  import_parts =
      ap (λ (n : ℕ). heading ed ++ (u32 1 ++ ((encode_envelope e ++ (u32 n ++ insert_bytes collection ts)) ++ []))) many
      ∙ regrouped (heading ed) (u32 1) (encode_envelope e) (u32 patch.operation_count) (insert_bytes collection ts)

  pub set_size : length bytes ≡ 35 + (head_size patch + length (insert_bytes collection ts))
  set_size =
      let front = heading ed ++ u32 1 in
      let head = encode_envelope e ++ u32 patch.operation_count in
      ap length import_parts
      ∙ omega (arith, length-append (front ++ head) (insert_bytes collection ts), length-append front head, length_heading ed 1, length_head patch)

  -- one patch has no neighbour
  pub import_found : is_found (findings (set_of collection e ts)).found ≡ (head_found e patch.operation_count || found_from [] (map (insert_of collection) ts))
  unfolding patches_found patch_found after_found previous_found id_seen patch_of
  import_found =
      sym (quick_found (set_of collection e ts))
      ∙ or_false (patch_found (patch_of collection e ts))
      ∙ ap (λ (n : ℕ). head_found e n || found_from [] (map (insert_of collection) ts)) many

  -- ---- told by its size and by what is found

  module _ (size : ℕ) (sized : size ≡ 35 + (head_size patch + length (insert_bytes collection ts))) (found : Bool) (told : found ≡ (head_found e patch.operation_count || found_from [] (map (insert_of collection) ts))) (room : ℕ) where
    long : length bytes ≡ size
    long = set_size ∙ sym sized

    clean : is_empty (findings (set_of collection e ts)).found ≡ not found
    unfolding is_found
    clean = twice (is_empty (findings (set_of collection e ts)).found) ∙ ap not (import_found ∙ sym told)
      where
        twice : (b : Bool) → b ≡ not (not b)
        twice true = refl
        twice false = refl

    -- what is told stands for what bringing in gives
    abbrev gives : Result ℕ ImportRefusal → model.Imported
    gives (Ok n) = model.imported bytes
    gives (Err r) = model.refused (import_refusal_of r)

    judged : import_patch ed (patch_of collection e ts) room ≡ gives (judged_patch size found room)
    unfolding import_patch judged_patch
    judged = rw (long, clean) (go (leb size set_bytes) found (leb size room))
      where
        go : (a f b : Bool) → (if a then (if not f then (if b then model.imported bytes else model.refused model.output_too_short) else model.refused model.patch_invalid) else model.refused model.over_capacity)
            ≡ gives (if a then (if f then Err refusal.PatchInvalid else (if b then Ok size else Err refusal.OutputTooShort)) else Err refusal.OverCapacity)
        go true true b = refl
        go true false true = refl
        go true false false = refl
        go false f b = refl

    pub judged_refused : (r : ImportRefusal) → judged_patch size found room ≡ Err r → import_patch ed (patch_of collection e ts) room ≡ model.refused (import_refusal_of r)
    judged_refused r h = judged ∙ ap gives h

    pub judged_imports : (n : ℕ) → judged_patch size found room ≡ Ok n → import_patch ed (patch_of collection e ts) room ≡ model.imported bytes
    judged_imports n h = judged ∙ ap gives h

    pub fits_told : (n : ℕ) → judged_patch size found room ≡ Ok n → (n ≡ length bytes) × (n ≤ room)
    unfolding judged_patch
    fits_told n e =
        test_cases (leb size set_bytes)
        (λ a.
        by_found found (rw a at e))
        (λ a. absurd (let z : ◌≡◌ {A = ℕ} 0 1 = cc (rw a at e) in omega arith))
      where
        by_found : (f : Bool) → (if f then Err refusal.PatchInvalid else (if leb size room then Ok size else Err refusal.OutputTooShort)) ≡ Ok n → (n ≡ length bytes) × (n ≤ room)
        by_found true e = absurd (let z : ◌≡◌ {A = ℕ} 0 1 = cc in omega arith)
        by_found false e =
            test_cases (leb size room)
            (λ b. let same : size ≡ n = cc (rw b at e) in (sym (long ∙ same), omega (arith, leb-true size room b)))
            (λ b. absurd (let z : ◌≡◌ {A = ℕ} 0 1 = cc (rw b at e) in omega arith))
