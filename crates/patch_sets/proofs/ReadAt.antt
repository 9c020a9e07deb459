-- What an answer of a call that reads from a set tells of the set: a heading, a patch's head or an operation, at a position.
use Rattle.std.specs.Prelude as code
use Rattle.spec_patch.proofs.ReadLaws.{operation_codec_by}
use Prim.Native.Nat.{ℕ, ◌+◌, ◌≤◌}
use mathlib.Core.Path.{◌≡◌, ap, ◌∙◌}
use mathlib.Core.Bool.{true}
use mathlib.Core.List.{List}
use native.Mathlib.Omega.{arith}
use lib.ListN.{length, drop, length-drop}
use Rattle.spec_lists.specs.Bytes.{Bytes}
use Rattle.spec_lists.proofs.BytesLaws.{bytes_drop}
use Rattle.spec_patch.specs.Sizes.{set_patches, patch_operations}
use Rattle.spec_patch.specs.Edition.{Edition}
use Rattle.spec_patch.specs.Read.{read_operation}
use Rattle.projection_patch.specs.Meaning.{operation_to}
use Rattle.projection_patch.specs.ReadAnswers.{anywhere, plain, lent_from, count_answer, operation_answer}
use Rattle.projection_patch.specs.declared.patch.ProjectionPatch.{ProjectionPatch}
use Rattle.projection_patch.specs.declared.patch.ProjectionPatchOperation.{ProjectionPatchOperation}
use Rattle.projection_patch.specs.declared.read_values.ProjectionPatchReadFault.{ProjectionPatchReadFault}
use Rattle.spec_lists.proofs.ListLaws.{lent_from_lem}
use Rattle.projection_patch.proofs.Answers.{Got, NotGot, got, not_got}
use Rattle.patch_sets.specs.Walk.{read_heading, read_head}
use Rattle.patch_sets.specs.HeadLaws.{heading_codec, head_codec}
use Rattle.patch_sets.specs.SetAnswers.{head_to, head_answer}
use Rattle.patch_sets.proofs.PatchAnswers.{heading_got, head_got, no_head}

-- ---- the heading

-- a heading was read: so many patches, from a position on
pub record HeadingReadAt (ed : Edition) (set : List ℕ) (count at : ℕ) : Type 0 where
  pub got : Got (read_heading ed) plain set 0 count at
  pub few : count ≤ set_patches
  pub within : at ≤ length set

pub heading_at : (ed : Edition) (set : List ℕ) → Bytes set → {r : code.Result (ℕ × ℕ) ProjectionPatchReadFault} → r ≡ count_answer (length set) (read_heading ed set) → {count at : ℕ} → r ≡ code.Ok (count, at) → HeadingReadAt ed set count at
heading_at ed set bytes {r} ensured {count} {at} told =
    let g = heading_got set 0 ed r ensured bytes count at told in
    record {
      got = g;
      few = rw (← g.same) ((heading_codec ed).only bytes g.a (drop at set) g.is).0;
      within = omega (arith, g.there);
    }

module _ (set : List ℕ) (at : ℕ) where
  -- ---- a patch's head

  -- a head was read from a position on
  pub record HeadReadAt (head : ProjectionPatch) (taken : ℕ) : Type 0 where
    pub got : Got read_head (anywhere head_to) (drop at set) 0 head taken
    pub counts : got.a.1 ≡ head.operation_count
    pub few : head.operation_count ≤ patch_operations
    pub within : at + taken ≤ length set

  module _ {r : code.Result (ProjectionPatch × ℕ) ProjectionPatchReadFault} (ensured : r ≡ head_answer (length (lent_from set at)) (read_head (lent_from set at))) where
    -- the answer is of the bytes from the position on
    head_answer_lem : r ≡ head_answer (length (drop at set)) (read_head (drop at set))
    head_answer_lem = ensured ∙ ap (λ (l : List ℕ). head_answer (length l) (read_head l)) (lent_from_lem set at)

    pub head_at : Bytes set → at ≤ length set → {head : ProjectionPatch} {taken : ℕ} → r ≡ code.Ok (head, taken) → HeadReadAt head taken
    head_at bytes here {head} {taken} told =
        let rest = bytes_drop at set bytes in
        let g = head_got (drop at set) 0 r head_answer_lem rest head taken told in
        let counts : g.a.1 ≡ head.operation_count = ap (λ (h : ProjectionPatch). h.operation_count) g.same in
        record {
          got = g;
          counts = counts;
          few = rw (← counts) (head_codec.only rest g.a (drop taken (drop at set)) g.is).0.1;
          within = omega (arith, length-drop at set, g.there);
        }

    pub no_head_at : {f : ProjectionPatchReadFault} → r ≡ code.Err f → NotGot read_head (drop at set) 0 f
    no_head_at {f} told = no_head (drop at set) 0 r head_answer_lem f told

-- ---- an operation

module _ (ed : Edition) (set : List ℕ) (at : ℕ) where
  -- an operation was read from a position on
  pub record OperationReadAt (x : ProjectionPatchOperation) (taken : ℕ) : Type 0 where
    pub got : Got (read_operation ed) operation_to (drop at set) 0 x taken
    pub within : at + taken ≤ length set

  module _ {r : code.Result (ProjectionPatchOperation × ℕ) ProjectionPatchReadFault} (ensured : r ≡ operation_answer (length (lent_from set at)) (read_operation ed (lent_from set at))) where
    -- the answer is of the bytes from the position on
    operation_answer_lem : r ≡ operation_answer (length (drop at set)) (read_operation ed (drop at set))
    operation_answer_lem = ensured ∙ ap (λ (l : List ℕ). operation_answer (length l) (read_operation ed l)) (lent_from_lem set at)

    pub operation_at : Bytes set → at ≤ length set → {x : ProjectionPatchOperation} {taken : ℕ} → r ≡ code.Ok (x, taken) → OperationReadAt x taken
    operation_at bytes here {x} {taken} told =
        let g = got operation_to (operation_codec_by true ed) (drop at set) 0 r operation_answer_lem (bytes_drop at set bytes) x taken told in
        record { got = g; within = omega (arith, length-drop at set, g.there) }

    pub no_operation_at : {f : ProjectionPatchReadFault} → r ≡ code.Err f → NotGot (read_operation ed) (drop at set) 0 f
    no_operation_at {f} told = not_got operation_to (operation_codec_by true ed) (drop at set) 0 r operation_answer_lem f told
