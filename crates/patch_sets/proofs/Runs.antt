-- A patch is read by its head first, and a set by its heading.
use Prim.Native.Nat.{ℕ, ◌+◌, ◌≤◌}
use mathlib.Core.Path.{◌≡◌, ap, ◌∙◌}
use mathlib.Core.List.{List}
use borrow.Author.Tests.{le-leb}
use lib.ListN.{length, drop}
use lib.Seq.{drop-drop}
use Rattle.spec_lists.specs.Bytes.{Bytes}
use Rattle.spec_lists.proofs.BytesLaws.{bytes_drop}
use Rattle.spec_patch.specs.Sizes.{set_bytes, patch_operations}
use Rattle.spec_patch.specs.Patch.{Operation, Patch}
use Rattle.spec_patch.specs.Edition.{Edition}
use Rattle.spec_patch.specs.Reader.{Result, read, refused, onward, followed, many}
use Rattle.spec_patch.specs.Read.{read_operation, to_patch, read_patch, fault, ended, read_set}
use Rattle.spec_patch.proofs.Codec.{many_codec}
use Rattle.spec_patch.proofs.ReadLaws.{operation_codec, patch_codec}
use Rattle.patch_sets.specs.Walk.{read_heading, read_head}
use Rattle.patch_sets.specs.HeadLaws.{patches_by_heading, patch_by_head}
use Rattle.projection_patch.specs.ReadAnswers.{plain}
use Rattle.projection_patch.specs.declared.patch.ProjectionPatch.{ProjectionPatch}
use Rattle.projection_patch.specs.declared.read_values.ProjectionPatchReadFault.{ProjectionPatchReadFault}
use Rattle.projection_patch.proofs.Answers.{Got, NotGot}
use Rattle.patch_sets.proofs.ReadAt.{HeadReadAt}

-- ---- a patch

module _ (ed : Edition) (set : List ℕ) (at : ℕ) where
  -- a run of n operations has n
  pub run_length : (n : ℕ) → Bytes set → (os : List Operation) (rest : List ℕ) → many n (read_operation ed) (drop at set) ≡ read os rest → length os ≡ n
  run_length n h os rest e = ((many_codec (operation_codec ed) n).only (bytes_drop at set h) os rest e).0.1

  -- behind its head, its operations decide
  pub patch_read : {head : ProjectionPatch} {taken : ℕ} (front : HeadReadAt set at head taken) (r : Result (List Operation)) → many head.operation_count (read_operation ed) (drop (at + taken) set) ≡ r → read_patch ed (drop at set) ≡ onward r (λ os rest. read (to_patch (front.got.a.0, os)) rest)
  patch_read {taken = taken} front r q = patch_by_head ed (drop at set) ∙ rw (front.got.is, drop-drop taken at set, front.counts, q)

  -- without its head it is refused
  pub head_refused : {f : ProjectionPatchReadFault} (g : NotGot read_head (drop at set) 0 f) → read_patch ed (drop at set) ≡ refused g.fault
  head_refused g = patch_by_head ed (drop at set) ∙ rw g.is

  -- a patch has no more operations than it may
  pub few : Bytes set → (p : Patch) (rest : List ℕ) → read_patch ed (drop at set) ≡ read p rest → length p.operations ≤ patch_operations
  few h p rest e = ((patch_codec ed).only (bytes_drop at set h) p rest e).0.few

-- ---- a set

module _ (ed : Edition) (set : List ℕ) (short : length set ≤ set_bytes) where
  set_read_by : (r : Result (List Patch)) → followed (read_heading ed) (λ n. many n (read_patch ed)) set ≡ r → read_set ed set ≡ ended r
  unfolding read_set
  set_read_by r e = rw (le-leb (length set) set_bytes short) (ap ended (patches_by_heading ed set ∙ e))

  -- behind its heading, its patches decide
  pub set_by_patches : {count at : ℕ} → Got (read_heading ed) plain set 0 count at → read_set ed set ≡ ended (many count (read_patch ed) (drop at set))
  set_by_patches {count} {at} g = set_read_by (many count (read_patch ed) (drop at set)) (rw (g.is, g.same))

  -- without its heading it is refused
  pub no_set : {f : ProjectionPatchReadFault} (g : NotGot (read_heading ed) set 0 f) → read_set ed set ≡ fault g.fault
  unfolding ended
  no_set g = set_read_by (refused g.fault) (rw g.is)
