-- What a conversion is, by what reading the set, the kinds of its values and the room for it say; and what was written is read back.
use Rattle.std.specs.Prelude.{ℕ, ◌+◌, ◌≤◌, ◌<◌, ◌≡◌, refl, true, List, ◌∷◌, ◌++◌, length, take, drop, Result, Ok, Err}
use Rattle.std.proofs.Common.{sym, ◌∙◌, arith, length-append, length-drop, take_at, length-take-le}
use Rattle.std.proofs.Math.Path.{ap}
use Rattle.std.proofs.Math.Bool.{false}
use borrow.Author.Tests.{lt-leb}
use Rattle.std.proofs.Math.Dec.{leb}
use Rattle.spec_lists.specs.Bytes.{Bytes}
use Rattle.spec_patch.specs.Patch.{Patch}
use Rattle.spec_patch.specs.Edition.{Edition, edition_digit}
use Rattle.spec_patch.specs.Encode.{encode}
use Rattle.spec_patch.specs.Reader.{malformed, over_capacity}
use Rattle.spec_patch.specs.Read.{SetReading, patches, fault, read_set}
use Rattle.spec_conversion.specs.Conversion as model
use Rattle.spec_conversion.specs.Conversion.{other_edition, all_kinds, convert}
use Rattle.spec_conversion.proofs.ConversionLaws.{converts, length_other, same_list, one_letter}
use Rattle.bytes_wire.specs.Write.{overwrite}
use Rattle.bytes_wire.proofs.WriteLaws.{has_room_lem, overwrite_in_place}
use Rattle.projection_patch.specs.ReadAnswers.{fault_of}
use Rattle.projection_patch.specs.declared.read_values.ProjectionPatchReadFault.{ProjectionPatchReadFault}
use Rattle.projection_patch.specs.declared.read_values.ProjectionPatchReadFault.TheVariants.{Malformed, OverCapacity}
use Rattle.patch_walk.specs.declared.SetCounts.{SetCounts}
use Rattle.patch_walk.specs.SetReads.{set_answer, counted}
use Rattle.patch_converter.specs.declared.ConversionRefusal.{ConversionRefusal}
use Rattle.patch_converter.specs.Answers.{conversion_refusal_to, conversion_answer, conversion_output}

module _ (from : Edition) (set : List ℕ) where
  -- a set that is read
  pub record Readable : Type 0 where
    pub list : List Patch
    pub reads : read_set from set ≡ patches list

  pub set_readable : (m n : ℕ) → set_answer (read_set from set) ≡ counted m n → Readable
  set_readable m n e = go (read_set from set) refl e
    where
      go : (r : SetReading) → read_set from set ≡ r → set_answer r ≡ counted m n → Readable
      go (patches ps) r e = record { list = ps; reads = r }
      go (fault f) r e = absurd (let z : ◌≡◌ {A = ℕ} 0 1 = cc in omega arith)

  -- one that is not
  pub set_not_read : (f : ProjectionPatchReadFault) → set_answer (read_set from set) ≡ Err f → read_set from set ≡ fault (fault_of f)
  set_not_read f e = go (read_set from set) refl e
    where
      told : (g : ProjectionPatchReadFault) → ◌≡◌ {A = Result SetCounts ProjectionPatchReadFault} (Err g) (Err f) → fault_of g ≡ fault_of f
      told g e = let is : g ≡ f = cc in ap fault_of is

      go : (r : SetReading) → read_set from set ≡ r → set_answer r ≡ Err f → read_set from set ≡ fault (fault_of f)
      go (patches ps) r e = absurd (let z : ◌≡◌ {A = ℕ} 0 1 = cc in omega arith)
      go (fault malformed) r e = r ∙ ap fault (told Malformed e)
      go (fault over_capacity) r e = r ∙ ap fault (told OverCapacity e)

  module _ (room : ℕ) where
    pub is_unread : (f : ProjectionPatchReadFault) → read_set from set ≡ fault (fault_of f) → convert from set room ≡ model.refused (model.unread (fault_of f))
    unfolding convert model.convert_to model.rewritten
    is_unread f r = rw r

    module _ (ps : List Patch) (reads : read_set from set ≡ patches ps) where
      pub is_missing : all_kinds (other_edition from) ps ≡ false → convert from set room ≡ model.refused model.kind_missing
      unfolding convert model.convert_to model.rewritten
      is_missing k = rw (reads, k)

      module _ (all_bytes : Bytes set) (kinds : all_kinds (other_edition from) ps ≡ true) where
        pub is_short : room < length set → convert from set room ≡ model.refused model.output_too_short
        unfolding convert model.convert_to model.rewritten
        is_short h =
            let long = length_other from (other_edition from) set all_bytes ps reads in
            let none : leb (length (encode (other_edition from) ps)) room ≡ false = lt-leb (length (encode (other_edition from) ps)) room (omega (arith, long)) in
            rw (reads, kinds, none)

        pub is_converted : length set ≤ room → convert from set room ≡ model.converted (take 30 set ++ (edition_digit (other_edition from) ∷ drop 31 set))
        unfolding convert
        is_converted h =
            let to = other_edition from in
            let done = converts from to set room all_bytes (record { list = ps; reads = reads; kinds = kinds; enough = h }) in
            done ∙ ap model.converted (one_letter from to set all_bytes room (encode to ps) done)

-- ---- the answer and the output

-- one letter in place of another
pub letter_length : (set : List ℕ) (d : ℕ) → 31 ≤ length set → length (take 30 set ++ (d ∷ drop 31 set)) ≡ length set
letter_length set d h = length-append (take 30 set) (d ∷ drop 31 set) ∙ omega (arith, length-take-le 30 set (omega arith), length-drop 31 set)

module _ (out : List ℕ) where
  -- what both clauses of the contract say
  abbrev pub ConversionLeft : model.Converted → Result ℕ ConversionRefusal → List ℕ → Type 0
  ConversionLeft w r after = (r ≡ conversion_answer w) × (after ≡ conversion_output out w)

  pub left_unconverted : {w : model.Converted} (n : model.ConversionRefusal) → w ≡ model.refused n → ConversionLeft w (Err (conversion_refusal_to n)) out
  left_unconverted n e = (sym (ap conversion_answer e), sym (ap (conversion_output out) e))

  pub left_converted : {w : model.Converted} (bs : List ℕ) → w ≡ model.converted bs → (n : ℕ) → length bs ≡ n → n ≤ length out → (after : List ℕ) → after ≡ overwrite out 0 bs → ConversionLeft w (Ok n) after
  left_converted bs e n long room after is =
      let none : 0 + n ≡ n = omega arith in (
        ap Ok (sym long) ∙ sym (ap conversion_answer e),
        is ∙ overwrite_in_place out 0 bs n long (has_room_lem out 0 n (omega arith)) ∙ ap (λ (k : ℕ). bs ++ drop k out) (none ∙ sym long) ∙ sym (ap (conversion_output out) e),
      )

-- what was written is read in the other edition as the set is read in its own
pub converted_read : (from : Edition) (set : List ℕ) → Bytes set → (out : List ℕ) (r : Result ℕ ConversionRefusal) (after : List ℕ) → ConversionLeft out (convert from set (length out)) r after
    → (n : ℕ) → r ≡ Ok n → read_set (other_edition from) (take n after) ≡ read_set from set
unfolding convert
converted_read from set all_bytes out r after h n e = ap (λ (l : List ℕ). read_set (other_edition from) (take n l)) h.1 ∙ go (convert from set (length out)) refl (sym h.0 ∙ e)
  where
    go : (w : model.Converted) → convert from set (length out) ≡ w → conversion_answer w ≡ Ok n → read_set (other_edition from) (take n (conversion_output out w)) ≡ read_set from set
    go (model.converted bs) is e =
        let long : length bs ≡ n = cc in
        ap (read_set (other_edition from)) (take_at bs (drop (length bs) out) n long) ∙ same_list from (other_edition from) set all_bytes (length out) bs is
    go (model.refused m) is e = absurd (let z : ◌≡◌ {A = ℕ} 0 1 = cc in omega arith)
