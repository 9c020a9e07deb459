-- `settle_steps` meets its contract: what is left, from what is settled now, gives what the whole walk gives; the measure is the bytes left.
use Prim.Native.Nat.{ℕ, ◌-◌, ◌≤◌}
use mathlib.Core.Path.{◌≡◌, refl, ap, ◌∙◌, subst}
use Rattle.std.specs.Prelude as code
use mathlib.Core.Bool.{false}
use mathlib.Core.List.{List, []}
use native.Mathlib.Omega.{arith}
use borrow.Author.Rules.{rules}
use lib.ListN.{length}
use Rattle.spec_patch.specs.Sizes.{set_bytes}
use Rattle.spec_patch.specs.Edition.{Edition}
use Rattle.spec_patch.specs.Patch.{Patch}
use Rattle.spec_dependencies.specs.Dependencies.{settle_patches}
use Rattle.projection_patch.specs.Meaning.{edition_of}
use Rattle.patch_walk.specs.Steps.{StepWithin, AtSteps}
use Rattle.patch_walk.proofs.StepsLaws.{visited, opened, done, never_refused}
use Rattle.patch_walk.specs.Steps.{StepAnswer}
use Rattle.set_dependencies.specs.SettledRows.{SettledIn, no_places}
use Rattle.set_dependencies.proofs.Walking.{SettlingRun, settling_start, settling_end, settling_head, settling_on, settling_contradicts}
use Rattle.set_dependencies.proofs.walk_set.settle_steps.Goals as goal
use Rattle.set_dependencies.proofs.walk_set.settle_steps.Goals.{After-next_step}

abbrev set : After-next_step → List ℕ
set k = k.args.set.now

abbrev told : After-next_step → Edition
told k = edition_of k.args.edition

within : (k : After-next_step) (r : StepAnswer) → k.next_step.result ≡ r → StepWithin k.loop-step.cursor (length (set k)) r
within k r q = subst (StepWithin k.loop-step.cursor (length (set k))) q k.next_step.ensures.within

pub loop-step-init : goal.loop-step-init
loop-step-init c = (refl, omega arith, omega arith, λ ps short here stored. settling_start _ _ ps here stored)

pub overflow_add-opened : goal.overflow_add-opened
overflow_add-opened c = let on = within (goal.at.overflow_add-opened c).After-next_step _ (c.in_ok-step.was ∙ ap code.Ok c.in-Head.is) in omega (arith, on.0, on.1)

pub loop-step-smaller-in-Head : goal.loop-step-smaller-in-Head
loop-step-smaller-in-Head c = let on = within (goal.at.loop-step-smaller-in-Head c).After-next_step _ (c.in_ok-step.was ∙ ap code.Ok c.in-Head.is) in omega (arith, on.0, on.1)

pub loop-step-preserved-in-Head : goal.loop-step-preserved-in-Head
loop-step-preserved-in-Head c =
    let on = within (goal.at.loop-step-preserved-in-Head c).After-next_step _ (c.in_ok-step.was ∙ ap code.Ok c.in-Head.is) in (
      c.loop-step.invariant.0,
      omega (arith, on.0),
      omega arith,
      λ ps short here stored. let w = c.loop-step.invariant.3 ps short here stored in settling_head (told (goal.at.loop-step-preserved-in-Head c).After-next_step) (set (goal.at.loop-step-preserved-in-Head c).After-next_step) _ w (opened false (told (goal.at.loop-step-preserved-in-Head c).After-next_step) (set (goal.at.loop-step-preserved-in-Head c).After-next_step) c.loop-step.cursor w.here c.next_step.ensures.is _ _ (c.in_ok-step.was ∙ ap code.Ok c.in-Head.is)),
    )

pub overflow_add-index : goal.overflow_add-index
overflow_add-index c = let on = within (goal.at.overflow_add-index c).After-next_step _ (c.in_ok-step.was ∙ ap code.Ok c.in-Operation.is) in omega (arith, on.0, on.1)

pub loop-step-smaller : goal.loop-step-smaller
loop-step-smaller c = let on = within (goal.at.loop-step-smaller c).After-next_step _ (c.in_ok-step.was ∙ ap code.Ok c.in-Operation.is) in omega (arith, on.0, on.1)

pub loop-step-preserved : goal.loop-step-preserved
loop-step-preserved c =
    let on = within (goal.at.loop-step-preserved c).After-next_step _ (c.in_ok-step.was ∙ ap code.Ok c.in-Operation.is) in (
      search rules,
      omega (arith, on.0),
      omega (arith, on.0),
      λ ps short here stored.
          let w = c.loop-step.invariant.3 ps short here stored in
          settling_on (told (goal.at.loop-step-preserved c).After-next_step) (set (goal.at.loop-step-preserved c).After-next_step) _ w (visited false (told (goal.at.loop-step-preserved c).After-next_step) (set (goal.at.loop-step-preserved c).After-next_step) c.loop-step.cursor w.here c.next_step.ensures.is _ _ (c.in_ok-step.was ∙ ap code.Ok c.in-Operation.is)) short _ c.settle_operation.ensures c.in-Some.is,
    )

pub returns-in_default : goal.returns-in_default
returns-in_default c =
    λ ps short here stored.
    let w = c.loop-step.invariant.3 ps short here stored in
    settling_contradicts (told (goal.at.returns-in_default c).After-next_step) (set (goal.at.returns-in_default c).After-next_step) _ w (visited false (told (goal.at.returns-in_default c).After-next_step) (set (goal.at.returns-in_default c).After-next_step) c.loop-step.cursor w.here c.next_step.ensures.is _ _ (c.in_ok-step.was ∙ ap code.Ok c.in-Operation.is)) short _ c.settle_operation.ensures c.in_default.is

pub returns-in-End : goal.returns-in-End
returns-in-End c =
    λ ps short here stored.
    let w = c.loop-step.invariant.3 ps short here stored in
    settling_end (told (goal.at.returns-in-End c).After-next_step) (set (goal.at.returns-in-End c).After-next_step) _ w (done false (told (goal.at.returns-in-End c).After-next_step) (set (goal.at.returns-in-End c).After-next_step) c.loop-step.cursor w.here c.next_step.ensures.is (c.in_ok-step.was ∙ ap code.Ok c.in-End.is))

pub returns-in_err-step : goal.returns-in_err-step
returns-in_err-step c =
    λ ps short here stored.
    let w = c.loop-step.invariant.3 ps short here stored in
    absurd (never_refused false (told (goal.at.returns-in_err-step c).After-next_step) (set (goal.at.returns-in_err-step c).After-next_step) c.loop-step.cursor w.here c.next_step.ensures.is _ c.in_err-step.was)
