-- What the answer and the output are by what is written, and the size of an operation by its text.
use Rattle.std.specs.Prelude.{ℕ, ◌+◌, ◌≤◌, ◌<◌, ◌≡◌, refl, true, false, List, leb, length, Result, Ok, Err}
use Rattle.std.proofs.Math.Path.{sym}
use Rattle.std.proofs.Common.{ap, ◌∙◌, le-leb}
use Rattle.std.proofs.lemmas.Bool.{lt-leb}
use Rattle.spec_patch.specs.Sizes.{text_bytes}
use Rattle.spec_patch.specs.Write as model
use Rattle.bytes_wire.specs.Write.{has_room, overwrite}
use Rattle.bytes_wire.proofs.WriteLaws.{overwrite_refused}
use Rattle.projection_patch.specs.declared.patch.ProjectionPatchOperation.{ProjectionPatchOperation}
use Rattle.patch_part_writer.specs.declared.written.WriteRefusal.{WriteRefusal}
use Rattle.patch_part_writer.specs.declared.written.WriteRefusal.TheVariants.{OverCapacity, Malformed, OutputTooShort}
use Rattle.patch_part_writer.specs.Extent.{operation_size, operation_text}
use Rattle.patch_part_writer.specs.Answer.{write_refusal_of, refusal_to, written_at, output_at}
use Rattle.patch_part_writer.specs.Parts.{size_within}

-- ---- the answer by the result

same_refusal : (r : WriteRefusal) → r ≡ refusal_to (write_refusal_of r)
same_refusal OverCapacity = refl
same_refusal Malformed = refl
same_refusal OutputTooShort = refl

module _ (out : List ℕ) (at : ℕ) where
  abbrev pub PartAnswered : model.Written → Result ℕ WriteRefusal → List ℕ → Type 0
  PartAnswered w r after = (r ≡ written_at out at w) × (after ≡ output_at out at w)

  pub answers_refused : {w : model.Written} {n : model.WriteRefusal} → w ≡ model.refused n → PartAnswered w (Err (refusal_to n)) out
  answers_refused e = (sym (ap (written_at out at) e), sym (ap (output_at out at) e))

  pub answers_refusal : {w : model.Written} (r : WriteRefusal) → w ≡ model.refused (write_refusal_of r) → PartAnswered w (Err r) out
  answers_refusal r e = (ap Err (same_refusal r) ∙ (answers_refused e).0, (answers_refused e).1)

  module _ {w : model.Written} {bs : List ℕ} (e : w ≡ model.wrote bs) (n : ℕ) (long : length bs ≡ n) where
    pub answers_short : leb (at + n) (length out) ≡ false → PartAnswered w (Err OutputTooShort) out
    unfolding has_room
    answers_short h =
        (sym (ap (written_at out at) e ∙ rw (long, h)), sym (ap (output_at out at) e ∙ overwrite_refused out at bs n long h))

    pub answers_wrote : leb (at + n) (length out) ≡ true → (after : List ℕ) → after ≡ overwrite out at bs → PartAnswered w (Ok (at + n)) after
    unfolding has_room
    answers_wrote h after is = (sym (ap (written_at out at) e ∙ rw (long, h)), is ∙ sym (ap (output_at out at) e))

-- ---- the size of an operation

module _ (o : ProjectionPatchOperation) where
  pub size_kept : (operation_text o).len ≤ text_bytes → size_within o ≡ operation_size o
  unfolding size_within
  size_kept short = rw (le-leb (operation_text o).len text_bytes short)

  pub size_over : text_bytes < (operation_text o).len → size_within o ≡ 0
  unfolding size_within
  size_over over = rw (lt-leb (operation_text o).len text_bytes over)
