-- What a walk over a set answers, one step at a time, and where it stands in the list of patches.
use Rattle.std.specs.Prelude.{ℕ, ◌+◌, ◌-◌, ◌≤◌, ◌<◌, ◌≡◌, Bool, leb, ltb, length, drop, if◌then◌else◌}
use Rattle.std.specs.Prelude as code
use mathlib.Core.List.{List, ◌++◌, flat_map}
use Rattle.spec_lists.specs.Lists.{All}
use Rattle.spec_patch.specs.Sizes.{set_bytes}
use Rattle.spec_patch.specs.Patch as model
use Rattle.spec_patch.specs.Edition.{Edition}
use Rattle.spec_patch.specs.Encode.{encode_operation, encode_patch}
use Rattle.spec_patch.specs.Fits.{FitsOperation, FitsPatch}
use Rattle.spec_patch.specs.Read.{read_operation_by}
use Rattle.projection_patch.specs.ReadAnswers.{count_answer, operation_answer}
use Rattle.projection_patch.specs.declared.patch.ProjectionPatch.{ProjectionPatch}
use Rattle.projection_patch.specs.declared.read_values.ProjectionPatchReadFault.{ProjectionPatchReadFault}
use Rattle.projection_patch.specs.declared.read_values.ProjectionPatchReadFault.TheVariants.{OverCapacity}
use Rattle.patch_sets.specs.Walk.{read_heading, read_head}
use Rattle.patch_sets.specs.SetAnswers.{head_answer}
use Rattle.patch_walk.specs.declared.SetCursor.{SetCursor}
use Rattle.patch_walk.specs.declared.SetStep.{SetStep}
use Rattle.patch_walk.specs.declared.SetStep.TheVariants as set-step

-- ---- cursors

-- before the first of so many patches
abbrev pub first_cursor : ℕ → ℕ → SetCursor
first_cursor count from = record {
  at = from;
  patch_count = count;
  patches_left = count;
  patch_id = 0;
  operation_count = 0;
  operations_left = 0;
}

-- behind an operation of so many bytes
abbrev pub after_operation : SetCursor → ℕ → SetCursor
after_operation c taken = record {
  at = c.at + taken;
  patch_count = c.patch_count;
  patches_left = c.patches_left;
  patch_id = c.patch_id;
  operation_count = c.operation_count;
  operations_left = c.operations_left - 1;
}

-- behind a patch's head of so many bytes
abbrev pub after_head : SetCursor → ProjectionPatch → ℕ → SetCursor
after_head c head taken = record {
  at = c.at + taken;
  patch_count = c.patch_count;
  patches_left = c.patches_left - 1;
  patch_id = head.envelope.patch_id.0;
  operation_count = head.operation_count;
  operations_left = head.operation_count;
}

-- ---- answers

abbrev pub OpenAnswer : Type 0
OpenAnswer = code.Result SetCursor ProjectionPatchReadFault

abbrev pub StepAnswer : Type 0
StepAnswer = code.Result SetStep ProjectionPatchReadFault

module _ {X Y : Type 0} where
  -- the same answer, of what is made of what was read and of the position behind it
  abbrev pub made_of : (X → ℕ → Y) → code.Result (X × ℕ) ProjectionPatchReadFault → code.Result Y ProjectionPatchReadFault
  made_of f (code.Ok t) = code.Ok (f t.0 t.1)
  made_of f (code.Err e) = code.Err e

-- more than 32,768 bytes are 12 before any reading; then the heading decides
abbrev pub open_answer : Edition → List ℕ → OpenAnswer
open_answer ed set =
    if leb (length set) set_bytes
    then made_of first_cursor (count_answer (length set) (read_heading ed set))
    else code.Err OverCapacity

abbrev pub operation_step : Bool → Edition → SetCursor → List ℕ → StepAnswer
operation_step check ed c set =
    made_of (λ x taken. set-step.Operation x (after_operation c taken))
    (operation_answer (length (drop c.at set)) (read_operation_by check ed (drop c.at set)))

abbrev pub head_step : SetCursor → List ℕ → StepAnswer
head_step c set =
    made_of (λ h taken. set-step.Head h (after_head c h taken))
    (head_answer (length (drop c.at set)) (read_head (drop c.at set)))

-- an operation while some are left of the open patch, then the next patch's head, then the end
unfoldable pub step_answer : Bool → Edition → SetCursor → List ℕ → StepAnswer
step_answer check ed c set =
    if ltb 0 c.operations_left then operation_step check ed c set else
    if ltb 0 c.patches_left then head_step c set else
    code.Ok set-step.End

-- a step goes on, and ends within so many bytes
abbrev pub StepWithin : SetCursor → ℕ → StepAnswer → Type 0
StepWithin c size (code.Ok (set-step.Head h d)) = (c.at < d.at) × (d.at ≤ size)
StepWithin c size (code.Ok (set-step.Operation x d)) = (c.at < d.at) × (d.at ≤ size)
StepWithin c size (code.Ok set-step.End) = Unit {0}
StepWithin c size (code.Err f) = Unit {0}

-- ---- where a walk over a readable set stands: these operations are left of the open patch, then these patches, and then the set ends
pub record AtSteps (ed : Edition) (set : List ℕ) (c : SetCursor) (os : List model.Operation) (ps : List model.Patch) : Type 0 where
  pub inside : c.at ≤ length set
  pub fit : All (FitsOperation ed) os
  pub fit_rest : All (FitsPatch ed) ps
  pub left : drop c.at set ≡ flat_map encode_operation os ++ flat_map encode_patch ps
  pub operations : length os ≡ c.operations_left
  pub patches : length ps ≡ c.patches_left
