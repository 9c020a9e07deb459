-- On a readable set a step is on what is left.
use Rattle.std.specs.Prelude as code
use Prim.Native.Nat.{ℕ, ◌<◌}
use mathlib.Core.Path.{◌≡◌}
use mathlib.Core.Bool.{Bool}
use mathlib.Core.List.{List, [], ◌∷◌}
use native.Mathlib.Omega.{arith}
use lib.ListN.{length}
use Rattle.spec_patch.specs.Patch.{Operation, Patch}
use Rattle.spec_patch.specs.Edition.{Edition}
use Rattle.spec_patch.specs.Encode.{encode_operation}
use Rattle.projection_patch.specs.Meaning.{operation_to}
use Rattle.projection_patch.specs.declared.patch.ProjectionPatch.{ProjectionPatch}
use Rattle.projection_patch.specs.declared.patch.ProjectionPatchOperation.{ProjectionPatchOperation}
use Rattle.patch_sets.specs.Walk.{head_of, encode_head}
use Rattle.patch_sets.specs.SetAnswers.{head_to}
use Rattle.patch_walk.specs.Steps.{after_operation, after_head, step_answer, AtSteps}
use Rattle.patch_walk.proofs.StepsLaws.{operation_is, head_is}
use Rattle.patch_walk.specs.declared.SetCursor.{SetCursor}
use Rattle.patch_walk.specs.declared.SetStep.TheVariants as set-step

module _ (check : Bool) (ed : Edition) (set : List ℕ) (c : SetCursor) where
  -- while operations are left of the open patch
  pub operation_stands : (os : List Operation) (ps : List Patch) → AtSteps ed set c os ps → 0 < c.operations_left → (x : ProjectionPatchOperation) × (n : SetCursor) × (step_answer check ed c set ≡ code.Ok (set-step.Operation x n))
  operation_stands [] ps here some' = absurd (omega (arith, here.operations))
  operation_stands (o ∷ os) ps here some' =
      let size = length (encode_operation o) in (operation_to size o, after_operation c size, operation_is check ed set c o os ps here)

  -- while patches are left, and no patch is open
  pub head_stands : (ps : List Patch) → AtSteps ed set c [] ps → 0 < c.patches_left → (h : ProjectionPatch) × (n : SetCursor) × (step_answer check ed c set ≡ code.Ok (set-step.Head h n))
  head_stands [] here some' = absurd (omega (arith, here.patches))
  head_stands (p ∷ ps) here some' =
      let size = length (encode_head (head_of p)) in (head_to (head_of p), after_head c (head_to (head_of p)) size, head_is check ed set c p ps here)
