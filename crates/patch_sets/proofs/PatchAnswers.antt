-- Answers of heads taken apart, by the laws for every answer.
use Rattle.std.specs.Prelude as code
use Prim.Native.Nat.{ℕ}
use mathlib.Core.Path.{◌≡◌}
use mathlib.Core.List.{List}
use lib.Dec.{lit<}
use lib.ListN.{length, drop}
use Rattle.spec_lists.specs.Bytes.{Bytes}
use Rattle.spec_patch.specs.Sizes.{patch_operations}
use Rattle.spec_patch.specs.Edition.{Edition}
use Rattle.spec_patch.specs.Read.{read_count, read_envelope}
use Rattle.spec_patch.proofs.ReadLaws.{count_codec, envelope_codec}
use Rattle.projection_patch.specs.Meaning.{envelope_to}
use Rattle.projection_patch.specs.ReadAnswers.{anywhere, plain, count_answer}
use Rattle.projection_patch.specs.declared.patch.ProjectionPatch.{ProjectionPatch}
use Rattle.projection_patch.specs.declared.patch.ProjectionPatchEnvelope.{ProjectionPatchEnvelope}
use Rattle.projection_patch.specs.declared.read_values.ProjectionPatchReadFault.{ProjectionPatchReadFault}
use Rattle.projection_patch.proofs.Answers.{Got, NotGot, got, not_got}
use Rattle.patch_sets.specs.Walk.{read_heading, read_head}
use Rattle.patch_sets.specs.HeadLaws.{heading_codec, head_codec}
use Rattle.patch_sets.specs.SetAnswers.{envelope_answer, head_to, head_answer}

module _ (l : List ℕ) (at : ℕ) where
  pub operation_count_got : (r : code.Result (ℕ × ℕ) ProjectionPatchReadFault) → r ≡ count_answer (length l) (read_count patch_operations (drop at l)) → Bytes l → (n end : ℕ) → r ≡ code.Ok (n, end) → Got (read_count patch_operations) plain l at n end
  operation_count_got = got plain (count_codec patch_operations (lit< tt)) l at

  pub no_operation_count : (r : code.Result (ℕ × ℕ) ProjectionPatchReadFault) → r ≡ count_answer (length l) (read_count patch_operations (drop at l)) → (f : ProjectionPatchReadFault) → r ≡ code.Err f → NotGot (read_count patch_operations) l at f
  no_operation_count = not_got plain (count_codec patch_operations (lit< tt)) l at

  pub envelope_got : (r : code.Result (ProjectionPatchEnvelope × ℕ) ProjectionPatchReadFault) → r ≡ envelope_answer (length l) (read_envelope (drop at l)) → Bytes l → (e : ProjectionPatchEnvelope) (end : ℕ) → r ≡ code.Ok (e, end) → Got read_envelope (anywhere envelope_to) l at e end
  envelope_got = got (anywhere envelope_to) envelope_codec l at

  pub no_envelope : (r : code.Result (ProjectionPatchEnvelope × ℕ) ProjectionPatchReadFault) → r ≡ envelope_answer (length l) (read_envelope (drop at l)) → (f : ProjectionPatchReadFault) → r ≡ code.Err f → NotGot read_envelope l at f
  no_envelope = not_got (anywhere envelope_to) envelope_codec l at

  pub head_got : (r : code.Result (ProjectionPatch × ℕ) ProjectionPatchReadFault) → r ≡ head_answer (length l) (read_head (drop at l)) → Bytes l → (h : ProjectionPatch) (end : ℕ) → r ≡ code.Ok (h, end) → Got read_head (anywhere head_to) l at h end
  head_got = got (anywhere head_to) head_codec l at

  pub no_head : (r : code.Result (ProjectionPatch × ℕ) ProjectionPatchReadFault) → r ≡ head_answer (length l) (read_head (drop at l)) → (f : ProjectionPatchReadFault) → r ≡ code.Err f → NotGot read_head l at f
  no_head = not_got (anywhere head_to) head_codec l at

  pub heading_got : (ed : Edition) (r : code.Result (ℕ × ℕ) ProjectionPatchReadFault) → r ≡ count_answer (length l) (read_heading ed (drop at l)) → Bytes l → (n end : ℕ) → r ≡ code.Ok (n, end) → Got (read_heading ed) plain l at n end
  heading_got ed = got plain (heading_codec ed) l at

  pub no_heading : (ed : Edition) (r : code.Result (ℕ × ℕ) ProjectionPatchReadFault) → r ≡ count_answer (length l) (read_heading ed (drop at l)) → (f : ProjectionPatchReadFault) → r ≡ code.Err f → NotGot (read_heading ed) l at f
  no_heading ed = not_got plain (heading_codec ed) l at
