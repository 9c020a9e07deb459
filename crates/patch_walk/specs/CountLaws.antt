-- What the numbers of a cursor are after a step, whatever the bytes.
use Rattle.std.specs.Prelude as code
use Rattle.std.specs.Prelude.{ℕ, ◌+◌, ◌≤◌, ◌<◌, ◌≡◌, refl, Bool, List, leb, ltb, length, drop}
use Rattle.std.proofs.Common.{arith, ltb-true}
use Rattle.spec_lists.specs.Bytes.{Bytes}
use Rattle.spec_lists.proofs.BytesLaws.{bytes_drop}
use Rattle.spec_lists.proofs.ListLaws.{test_cases}
use Rattle.spec_patch.specs.Sizes.{set_bytes, set_patches, patch_operations}
use Rattle.spec_patch.specs.Patch.{Operation, Envelope}
use Rattle.spec_patch.specs.Edition.{Edition}
use Rattle.spec_patch.specs.Reader.{Result, read, refused}
use Rattle.spec_patch.specs.Read.{read_operation_by}
use Rattle.projection_patch.specs.Meaning.{operation_to}
use Rattle.projection_patch.specs.ReadAnswers.{answer, anywhere, plain}
use Rattle.patch_sets.specs.Walk.{read_heading, read_head}
use Rattle.patch_sets.specs.HeadLaws.{heading_codec, head_codec}
use Rattle.patch_sets.specs.SetAnswers.{head_to}
use Rattle.patch_walk.specs.Steps.{OpenAnswer, StepAnswer, made_of, first_cursor, after_operation, after_head, open_answer, operation_step, head_step, step_answer}
use Rattle.patch_walk.specs.declared.SetCursor.{SetCursor}
use Rattle.patch_walk.specs.declared.SetStep.TheVariants as set-step

-- an operation is one of those that were left; a head opens one of the patches, which has no more operations than a patch may
abbrev pub StepCounts : SetCursor → StepAnswer → Type 0
StepCounts c (code.Ok (set-step.Head h d)) = (d.patches_left + 1 ≡ c.patches_left) × (d.operations_left ≤ patch_operations)
StepCounts c (code.Ok (set-step.Operation x d)) = (d.operations_left + 1 ≡ c.operations_left) × (d.patches_left ≡ c.patches_left)
StepCounts c (code.Ok set-step.End) = Unit {0}
StepCounts c (code.Err f) = Unit {0}

module _ (check : Bool) (ed : Edition) (set : List ℕ) (all : Bytes set) (c : SetCursor) where
  abbrev bs : List ℕ
  bs = drop c.at set

  operation_counts : 0 < c.operations_left → StepCounts c (operation_step check ed c set)
  operation_counts some' = go (read_operation_by check ed bs)
    where
      go : (r : Result Operation) → StepCounts c (made_of (λ x taken. set-step.Operation x (after_operation c taken)) (answer operation_to (length bs) r))
      go (read o rest) = (omega arith, refl)
      go (refused f) = tt

  head_counts : 0 < c.patches_left → StepCounts c (head_step c set)
  head_counts some' = go (read_head bs) refl
    where
      go : (r : Result (Envelope × ℕ)) → read_head bs ≡ r → StepCounts c (made_of (λ h taken. set-step.Head h (after_head c h taken)) (answer (anywhere head_to) (length bs) r))
      go (read h rest) e = (omega arith, (head_codec.only (bytes_drop c.at set all) h rest e).0.1)
      go (refused f) e = tt

  pub step_counts : StepCounts c (step_answer check ed c set)
  unfolding step_answer
  step_counts =
      test_cases (ltb 0 c.operations_left)
      (λ t. rw t (operation_counts (ltb-true 0 c.operations_left t)))
      (λ t. test_cases (ltb 0 c.patches_left) (λ u. rw (t, u) (head_counts (ltb-true 0 c.patches_left u))) (λ u. rw (t, u) tt))

-- a set has no more patches than it may
abbrev pub OpeningCounts : OpenAnswer → Type 0
OpeningCounts (code.Ok c) = c.patches_left ≤ set_patches
OpeningCounts (code.Err f) = Unit {0}

pub opening_counts : (ed : Edition) (set : List ℕ) → Bytes set → OpeningCounts (open_answer ed set)
opening_counts ed set all = test_cases (leb (length set) set_bytes) (λ t. rw t (go (read_heading ed set) refl)) (λ t. rw t tt)
  where
    go : (r : Result ℕ) → read_heading ed set ≡ r → OpeningCounts (made_of first_cursor (answer plain (length set) r))
    go (read n rest) e = ((heading_codec ed).only all n rest e).0
    go (refused f) e = tt
