-- What a run over a set answers, and the plan that it leaves.
use Rattle.std.specs.Prelude.{ℕ, ◌-◌, ◌≡◌, List, ◌∷◌, length, Option, Some, None, Result, Ok, Err}
use Rattle.spec_patch.specs.Edition.{Edition}
use Rattle.spec_patch.specs.Patch.{Operation, Patch}
use Rattle.spec_projection.specs.Projection.{Projection}
use Rattle.spec_projection.specs.Apply.{Outcome, done, stopped, replay_steps, apply_steps}
use Rattle.spec_explain.specs.Walk.{Halt, Walk, through, halted, walk_patches}
use Rattle.spec_explain.specs.Explain.{step_kept}
use Rattle.local_projection_state.specs.declared.ProjectionCounts.{ProjectionCounts}
use Rattle.panel_plan.specs.Resolved.{resolved}
use Rattle.panel_plan.specs.Plan.{resolution}
use Rattle.panel_plan.specs.PlanRows.{StoredPlan}
use Rattle.panel_plan.specs.SetValues.{value_in}
use Rattle.panel_plan.specs.Sources.{SourcedPlan}
use Rattle.local_projection_state.specs.Faults.{application_fault_of}
use Rattle.projection_patch.specs.declared.read_values.ProjectionPatchReadFault.{ProjectionPatchReadFault}
use Rattle.projection_patch.specs.declared.read_values.ProjectionPatchReadFault.TheVariants.{Malformed}
use Rattle.patch_walk.specs.Steps.{AtSteps}
use Rattle.patch_walk.specs.declared.SetCursor.{SetCursor}
use Rattle.patch_walk.specs.Steps.{StepAnswer}
use Rattle.patch_walk.specs.declared.SetStep.TheVariants as set-step
use Rattle.panel_steps.specs.declared.PlanStop.{PlanStop}
use Rattle.panel_steps.specs.declared.PlanStop.TheVariants.{Refused, Unreadable}

-- the answer is the outcome's: with these counts the tables are what the next projection says, or the refusal is the fault's
abbrev pub RunBecame : (ProjectionCounts → Projection → Type 0) → Result ProjectionCounts PlanStop → Outcome → Type 0
RunBecame Next (Ok n) (done q) = Next n q
RunBecame Next (Ok n) (stopped f) = ⊥
RunBecame Next (Err (Refused e c n)) (done q) = ⊥
RunBecame Next (Err (Refused e c n)) (stopped f) = application_fault_of e ≡ f
RunBecame Next (Err (Unreadable f)) x = ⊥

-- the same by a walk over the patches: it goes through, or it halts at the cursor, and there the tables are what it leaves
abbrev pub RunWalked : (ProjectionCounts → Projection → Type 0) → (SetCursor → Halt Projection → Type 0) → Result ProjectionCounts PlanStop → Walk Projection → Type 0
RunWalked Next Halts (Ok n) (through q) = Next n q
RunWalked Next Halts (Ok n) (halted h) = ⊥
RunWalked Next Halts (Err (Refused e c n)) (through q) = ⊥
RunWalked Next Halts (Err (Refused e c n)) (halted h) = Next n h.left × Halts c h
RunWalked Next Halts (Err (Unreadable f)) w = ⊥

-- how far a cursor is in a set of so many patches: those that were opened, the index of the last of them, and that of the operation that
-- comes next in it
abbrev pub patches_passed : ℕ → SetCursor → ℕ
patches_passed count c = count - c.patches_left

abbrev pub patch_index : ℕ → SetCursor → ℕ
patch_index count c = patches_passed count c - 1

abbrev pub operation_index : SetCursor → ℕ
operation_index c = c.operation_count - c.operations_left

-- the operation of a halt stands at a cursor, which tells its place
pub record HaltsAt (ed : Edition) (set : List ℕ) (count : ℕ) (c : SetCursor) (h : Halt Projection) : Type 0 where
  pub later : List Operation
  pub rest : List Patch
  pub here : AtSteps ed set c (h.refused ∷ later) rest
  pub patch : h.patch ≡ patch_index count c
  pub operation : h.operation ≡ operation_index c

-- what a step is to a walk that expects a patch's head or the end
abbrev pub run_head : StepAnswer → Result (Option SetCursor) ProjectionPatchReadFault
run_head (Ok (set-step.Head h d)) = Ok (Some d)
run_head (Ok (set-step.Operation x d)) = Err Malformed
run_head (Ok set-step.End) = Ok None
run_head (Err f) = Err f

-- tables that store a plan of the projection x, for a batch on p: its sources stand for values, and resolving them gives x
pub record PlannedAs (ed : Edition) (p : Projection) (set b a e : List ℕ) (n : ProjectionCounts) (x : Projection) : Type 0 where
  pub plan : Projection
  pub stored : StoredPlan n b a e plan
  pub sourced : SourcedPlan ed p set plan
  pub resolves : resolved (resolution p (value_in ed set)) plan ≡ x

-- what a run over these patches answers of a batch on p, with the tables as it leaves them: by their steps, and by the walk over them
pub record RunTold (ed : Edition) (p : Projection) (ps : List Patch) (set b a e : List ℕ) (r : Result ProjectionCounts PlanStop) : Type 0 where
  pub became : RunBecame (PlannedAs ed p set b a e) r (apply_steps p (replay_steps ps))
  pub walked : RunWalked (PlannedAs ed p set b a e) (HaltsAt ed set (length ps)) r (walk_patches step_kept 0 p ps)
