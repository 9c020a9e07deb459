-- On a readable set a step is on what is left, so that a pattern for it matches: the other variants do not occur.
use Rattle.std.specs.Prelude as code
use Prim.Native.Nat.{ℕ, ◌<◌}
use mathlib.Core.Path.{◌≡◌, ◌∙◌, subst}
use mathlib.Core.Bool.{Bool}
use mathlib.Core.List.{List, [], ◌∷◌}
use mathlib.Core.Logic.{inl, inr}
use native.Mathlib.Omega.{arith}
use types.Run.{OneOf}
use denote.Enum.Declared.{tag_of}
use Rattle.spec_patch.specs.Patch.{Operation, Patch}
use Rattle.spec_patch.specs.Edition.{Edition}
use Rattle.patch_walk.specs.Steps.{StepAnswer, after_operation, after_head, step_answer, AtSteps}
use Rattle.spec_patch.specs.Encode.{encode_operation}
use lib.ListN.{length}
use Rattle.projection_patch.specs.Meaning.{operation_to}
use Rattle.patch_sets.specs.Walk.{head_of, encode_head}
use Rattle.patch_sets.specs.SetAnswers.{head_to}
use Rattle.patch_walk.proofs.StepsLaws.{operation_is, head_is}
use Rattle.patch_walk.specs.declared.SetCursor.{SetCursor}
use Rattle.patch_walk.specs.declared.SetStep.{SetStep}
use Rattle.patch_walk.specs.declared.SetStep.TheVariants as set-step
use Rattle.patch_walk.specs.contracts.SetStep.{the_type}

-- the variant of a step is one of these
abbrev Variant : List ℕ → SetStep → Type 0
Variant ks r = OneOf ks (tag_of the_type r)

no_head : OneOf (1 ∷ 2 ∷ []) 0 → ⊥
no_head (inl e) = omega arith
no_head (inr e) = omega arith

no_operation : OneOf (0 ∷ 2 ∷ []) 1 → ⊥
no_operation (inl e) = omega arith
no_operation (inr e) = omega arith

module _ (check : Bool) (ed : Edition) (set : List ℕ) (c : SetCursor) {s : SetStep} (answer_is : ◌≡◌ {A = StepAnswer} (code.Ok s) (step_answer check ed c set)) where
  -- while operations are left of the open patch
  pub operation_matches : (os : List Operation) (ps : List Patch) → AtSteps ed set c os ps → 0 < c.operations_left → OneOf (0 ∷ 2 ∷ []) (tag_of the_type s) → ⊥
  operation_matches [] ps here some' other = omega (arith, here.operations)
  operation_matches (o ∷ os) ps here some' other =
      let size = length (encode_operation o) in
      let same : s ≡ set-step.Operation (operation_to size o) (after_operation c size) = cc (answer_is ∙ operation_is check ed set c o os ps here) in
      no_operation (subst (Variant (0 ∷ 2 ∷ [])) same other)

  -- while patches are left, and no patch is open
  pub head_matches : (ps : List Patch) → AtSteps ed set c [] ps → 0 < c.patches_left → OneOf (1 ∷ 2 ∷ []) (tag_of the_type s) → ⊥
  head_matches [] here some' other = omega (arith, here.patches)
  head_matches (p ∷ ps) here some' other =
      let size = length (encode_head (head_of p)) in
      let same : s ≡ set-step.Head (head_to (head_of p)) (after_head c (head_to (head_of p)) size) = cc (answer_is ∙ head_is check ed set c p ps here) in
      no_head (subst (Variant (1 ∷ 2 ∷ [])) same other)
