-- A stored value is read back: its text stands in the row, and copied over zeros it is padded.
use Rattle.std.specs.Prelude as code
use Prim.Native.Nat.{ℕ, ◌+◌, ◌-◌, ◌≤◌}
use mathlib.Core.Path.{◌≡◌, refl, sym, ap, ◌∙◌, subst}
use mathlib.Core.Bool.{true, false}
use mathlib.Core.List.{List, ◌∷◌, ◌++◌, append_assoc}
use native.Mathlib.Omega.{arith}
use lib.IntN.{pos}
use lib.ListN.{length, take, drop, length-append, length-drop, take-append-drop}
use lib.Seq.{take_at, drop_at, length-take-le}
use Rattle.spec_lists.proofs.BytesLaws.{length_little_endian}
use Rattle.spec_patch.specs.Sizes.{text_bytes}
use Rattle.spec_patch.specs.Edition.{v2}
use Rattle.spec_patch.specs.Patch.{Quad, N, F, T, S, Value, quad, signed, text, unsigned, score}
use Rattle.spec_patch.specs.Encode.{u32, quad_byte, kind_of, value_body, encode_text, encode_value}
use Rattle.spec_patch.specs.Fits.{Storable, StorableBy}
use Rattle.spec_patch.specs.Read.{read_value_by}
use Rattle.bytes_records.specs.Moves.{zeros, overwrite_rows}
use Rattle.bytes_records.specs.MovesLaws.{drop_zeros}
use Rattle.projection_patch.specs.Meaning.{quad_to, quad_of, value_to, value_of}
use Rattle.projection_patch.specs.ReadAnswers.{lent_part, value_answer}
use Rattle.projection_patch.proofs.Texts.{lent_text}
use Rattle.projection_patch.specs.declared.patch.ProjectionQuadState.{ProjectionQuadState}
use Rattle.projection_patch.specs.declared.patch.ProjectionQuadState.TheVariants as states
use Rattle.projection_patch.specs.declared.patch.ProjectionPatchValue.{ProjectionPatchValue}
use Rattle.projection_patch.specs.declared.read_values.ProjectionPatchReadFault.{ProjectionPatchReadFault}
use Rattle.patch_part_writer.specs.Extent.{value_text, WithinTexts}
use Rattle.panel_rows.specs.Rows.{value_width, padded}
use Rattle.panel_rows.specs.RowsLaws.{read_padded}
use Rattle.panel_rows.specs.Lookup.{quad_number, found_value}
use Rattle.panel_rows.specs.declared.values.ValueLookup.{ValueLookup}

-- ---- a quad state's number

pub quad_number_lem : (s : ProjectionQuadState) → quad_number s ≡ quad_byte (quad_of s)
unfolding quad_byte
quad_number_lem states.N = refl
quad_number_lem states.F = refl
quad_number_lem states.T = refl
quad_number_lem states.S = refl

-- ---- a text over zeros

module _ (row : List ℕ) (mark start len : ℕ) (inside : start + len ≤ length row) (short : len ≤ text_bytes) where
  -- the part that is lent is the text
  text_lent : lent_part row start (start + len) ≡ take len (drop start row)
  text_lent = lent_text row start len inside

  text_long : length (take len (drop start row)) ≡ len
  text_long = length-take-le len (drop start row) (omega (arith, length-drop start row))

  pub text_fits : {part : List ℕ} → part ≡ lent_part row start (start + len) → length part ≤ text_bytes
  text_fits e = omega (arith, ap length (e ∙ text_lent), text_long)

  pub as_text : {part copied : List ℕ} → part ≡ lent_part row start (start + len) → copied ≡ overwrite_rows part (zeros text_bytes)
      → ◌≡◌ {A = ValueLookup} (record { found = true; mark = mark; kind = 3; quad = 0; signed = pos 0; unsigned = 0; text_len = len; text = copied }) (found_value mark (text (take len (drop start row))))
  as_text {copied = copied} is e =
      let t = take len (drop start row) in
      let bytes : copied ≡ t ++ zeros (text_bytes - length t) =
      e ∙ ap (λ (l : List ℕ). overwrite_rows l (zeros text_bytes)) (is ∙ text_lent) ∙ ap (λ (l : List ℕ). t ++ l) (drop_zeros (length t) text_bytes (omega (arith, text_long))) in
      λ i. record { found = true; mark = mark; kind = 3; quad = 0; signed = pos 0; unsigned = 0; text_len = sym text_long i; text = bytes i }

-- ---- the value behind a position of a row

quad_back : (q : Quad) → quad_of (quad_to q) ≡ q
quad_back N = refl
quad_back F = refl
quad_back T = refl
quad_back S = refl

-- how far the value reaches
abbrev end_of : List ℕ → Value → ℕ
end_of row v = length row - length (zeros (value_width - length (encode_value v)))

module _ (row : List ℕ) (at : ℕ) where
  text_there : (t rest : List ℕ) → drop at row ≡ encode_value (text t) ++ rest → (length row - length rest ≡ length (take at row) + 5 + length t) × (take (length t) (drop (length row - length rest - length t) row) ≡ t)
  unfolding encode_value kind_of value_body encode_text
  text_there t rest e =
      let pre = take at row ++ (3 ∷ u32 (length t)) in
      let whole : row ≡ pre ++ (t ++ rest) = sym (take-append-drop at row) ∙ ap (λ (l : List ℕ). take at row ++ l) e ∙ simp append_assoc in
      let front : length pre ≡ length (take at row) + 5 = simp (length-append, length_little_endian) (omega arith) in
      let long : length row ≡ length pre + (length t + length rest) = ap length whole ∙ length-append pre (t ++ rest) ∙ ap (λ (n : ℕ). length pre + n) (length-append t rest) in
      let start : length pre ≡ length row - length rest - length t = omega arith in (
        omega arith,
        ap (λ (l : List ℕ). take (length t) (drop (length row - length rest - length t) l)) whole ∙ ap (take (length t)) (drop_at pre (t ++ rest) (length row - length rest - length t) start) ∙ take_at t rest (length t) refl,
      )

  value_there : (v : Value) → Storable v → drop at row ≡ padded v → WithinTexts row (value_text (value_to (end_of row v) v)) × (value_of row (value_to (end_of row v) v) ≡ v)
  unfolding padded StorableBy
  value_there (quad q) h e = (record { inside = omega arith; short = omega arith }, ap quad (quad_back q))
  value_there (signed z) h e = (record { inside = omega arith; short = omega arith }, refl)
  value_there (text t) h e =
      let there = text_there t (zeros (value_width - length (encode_value (text t)))) e in
      (record { inside = omega (arith, there.0); short = h.short }, ap text there.1)
  value_there (unsigned x) h e = (record { inside = omega arith; short = omega arith }, refl)
  value_there (score n) h e = (record { inside = omega arith; short = omega arith }, refl)

  module _ (r : code.Result (ProjectionPatchValue × ℕ) ProjectionPatchReadFault) (answer_is : r ≡ value_answer (length row) (read_value_by false v2 (drop at row))) (v : Value) (h : Storable v) (e : drop at row ≡ padded v) where
    reads : r ≡ code.Ok (value_to (end_of row v) v, end_of row v)
    reads = answer_is ∙ ap (λ (l : List ℕ). value_answer (length row) (read_value_by false v2 l)) e ∙ ap (value_answer (length row)) (read_padded false v h)

    pub value_read_back : (x : ProjectionPatchValue) (end : ℕ) → r ≡ code.Ok (x, end) → WithinTexts row (value_text x) × (value_of row x ≡ v)
    value_read_back x end f =
        let both : ◌≡◌ {A = ProjectionPatchValue × ℕ} (value_to (end_of row v) v, end_of row v) (x, end) = cc (sym reads ∙ f) in
        let same : value_to (end_of row v) v ≡ x = ap (λ (z : ProjectionPatchValue × ℕ). z.0) both in
        subst (λ y. WithinTexts row (value_text y) × (value_of row y ≡ v)) same (value_there v h e)

    pub value_not_refused : (f : ProjectionPatchReadFault) → r ≡ code.Err f → ⊥
    value_not_refused f q = let z : ◌≡◌ {A = ℕ} 0 1 = cc (sym q ∙ reads) in omega arith
