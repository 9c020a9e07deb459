-- The answer and the output by what bringing in gives; and what was written is read back as the lines' keys and texts.
use Rattle.std.specs.Prelude.{ℕ, ◌+◌, ◌≤◌, ◌≡◌, refl, List, [], ◌∷◌, ◌++◌, map, length, take, drop, Result, Ok, Err}
use Rattle.std.proofs.Common.{sym, ap, ◌∙◌, arith, take_at}
use Rattle.std.proofs.Math.Option.{some}
use Rattle.spec_patch.specs.Patch.{Envelope}
use Rattle.spec_patch.specs.Edition.{Edition}
use Rattle.spec_patch.specs.Fits.{U64, InRangeEnvelope}
use Rattle.spec_patch.specs.Read.{patches, read_set}
use Rattle.spec_import.specs.Import as model
use Rattle.spec_import.specs.Import.{Term, lines, read_term, terms, faulty, read_terms, patch_of, import_patch, after_lines, import_terms}
use Rattle.spec_import.proofs.ImportLaws.{reads_import}
use Rattle.bytes_wire.specs.Write.{overwrite}
use Rattle.bytes_wire.proofs.WriteLaws.{has_room_lem, overwrite_in_place}
use Rattle.patch_import.specs.declared.answer.ImportRefusal.{ImportRefusal}
use Rattle.patch_import.specs.declared.answer.ImportRefusal.TheVariants.{OtherForm, OverCapacity, PatchInvalid, OutputTooShort}
use Rattle.patch_import.specs.Answers.{import_refusal_of, import_refusal_to, import_answer, import_output}

same_refusal : (r : ImportRefusal) → r ≡ import_refusal_to (import_refusal_of r)
same_refusal OtherForm = refl
same_refusal OverCapacity = refl
same_refusal PatchInvalid = refl
same_refusal OutputTooShort = refl

module _ (out : List ℕ) where
  -- what both clauses of the contract say
  abbrev pub ImportLeft : model.Imported → Result ℕ ImportRefusal → List ℕ → Type 0
  ImportLeft w r after = (r ≡ import_answer w) × (after ≡ import_output out w)

  pub left_unimported : {w : model.Imported} (r : ImportRefusal) → w ≡ model.refused (import_refusal_of r) → ImportLeft w (Err r) out
  left_unimported r e = (ap Err (same_refusal r) ∙ sym (ap import_answer e), sym (ap (import_output out) e))

  pub left_imported : {w : model.Imported} (bs : List ℕ) → w ≡ model.imported bs → (n : ℕ) → n ≡ length bs → n ≤ length out → (after : List ℕ) → after ≡ overwrite out 0 bs → ImportLeft w (Ok n) after
  left_imported bs e n long room after is =
      let none : 0 + length bs ≡ length bs = omega arith in (
        ap Ok long ∙ sym (ap import_answer e),
        is ∙ overwrite_in_place out 0 bs (length bs) refl (has_room_lem out 0 (length bs) (omega (arith, long))) ∙ ap (λ (k : ℕ). bs ++ drop k out) none ∙ sym (ap (import_output out) e),
      )

-- ---- by what the lines hold

module _ (ed : Edition) (collection : ℕ) (e : Envelope) (list : List ℕ) (room : ℕ) where
  pub of_faulty : (m : model.ImportRefusal) → read_terms 0 (lines list) ≡ faulty m → import_terms ed collection e list room ≡ model.refused m
  unfolding import_terms after_lines
  of_faulty m h = rw h

  pub of_terms : (ts : List Term) → read_terms 0 (lines list) ≡ terms ts → import_terms ed collection e list room ≡ import_patch ed (patch_of collection e ts) room
  unfolding import_terms after_lines
  of_terms ts h = rw h

-- what was written is read as one patch: the envelope that was given, and an insert of each line's key and text in their order
abbrev pub ReadsBack : Edition → ℕ → Envelope → List ℕ → Result ℕ ImportRefusal → List ℕ → Type 0
ReadsBack ed collection e list r after = (n : ℕ) → r ≡ Ok n → (ts : List Term) × (map read_term (lines list) ≡ map some ts) × (read_set ed (take n after) ≡ patches (patch_of collection e ts ∷ []))

pub imported_read : (ed : Edition) (collection : ℕ) (e : Envelope) → U64 collection → InRangeEnvelope e → (list out : List ℕ) (r : Result ℕ ImportRefusal) (after : List ℕ)
    → ImportLeft out (import_terms ed collection e list (length out)) r after → ReadsBack ed collection e list r after
imported_read ed collection e c-fits e-fits list out r after h n is = go (import_terms ed collection e list (length out)) refl (sym h.0 ∙ is) h.1
  where
    go : (w : model.Imported) → import_terms ed collection e list (length out) ≡ w → import_answer w ≡ Ok n → after ≡ import_output out w
        → (ts : List Term) × (map read_term (lines list) ≡ map some ts) × (read_set ed (take n after) ≡ patches (patch_of collection e ts ∷ []))
    go (model.imported bs) w e' left =
        let long : length bs ≡ n = cc in
        let back = reads_import ed collection e c-fits e-fits list (length out) bs w in
        (back.0, back.1, ap (λ (l : List ℕ). read_set ed (take n l)) left ∙ ap (read_set ed) (take_at bs (drop (length bs) out) n long) ∙ back.2)
    go (model.refused m) w e' left = absurd (let z : ◌≡◌ {A = ℕ} 0 1 = cc in omega arith)
