-- `patch_walk::read_steps` meets its contract: what is left answers as the whole does; each step goes on within the set, which is the measure and bounds the count.
use Prim.Native.Nat.{ℕ}
use mathlib.Core.Path.{◌≡◌, refl, sym, ap, ◌∙◌, subst}
use mathlib.Core.List.{List}
use native.Mathlib.Omega.{arith}
use lib.ListN.{length}
use Rattle.spec_lists.proofs.BytesLaws.{bytes_of}
use Rattle.spec_patch.specs.Edition.{Edition}
use Rattle.projection_patch.specs.Meaning.{edition_of}
use Rattle.patch_walk.specs.Steps.{StepAnswer, StepWithin}
use Rattle.patch_walk.specs.SetReadsLaws.{StepLeft, step_left}
use Rattle.std.specs.Prelude as code
use Rattle.std.proofs.lemmas.Result.{err_from_is_err_and}
use Rattle.patch_walk.proofs.read_steps.Goals as goal
use Rattle.patch_walk.proofs.read_steps.Goals.{After-step_at}

abbrev set : After-step_at → List ℕ
set c = c.args.set.now

abbrev edition : After-step_at → Edition
edition c = edition_of c.args.edition

left : (c : After-step_at) (r : StepAnswer) → c.step_at.result ≡ r → StepLeft (edition c) (set c) c.loop-next.cursor c.loop-next.operations r
left c r q =
    subst (StepLeft (edition c) (set c) c.loop-next.cursor c.loop-next.operations) (sym c.step_at.ensures.is ∙ q)
    (step_left (edition c) (set c) (bytes_of (set c) (λ j. (c.type_inv.set j).fits)) c.loop-next.cursor c.loop-next.operations)

within : (c : After-step_at) (r : StepAnswer) → c.step_at.result ≡ r → StepWithin c.loop-next.cursor (length (set c)) r
within c r q = subst (StepWithin c.loop-next.cursor (length (set c))) q c.step_at.ensures.within

pub loop-next-init : goal.loop-next-init
loop-next-init c = (omega arith, refl)

pub loop-next-smaller-in-Head : goal.loop-next-smaller-in-Head
loop-next-smaller-in-Head c = let on = within (goal.at.loop-next-smaller-in-Head c).After-step_at _ (c.in_ok-next.was ∙ ap code.Ok c.in-Head.is) in omega (arith, on.0, on.1)

pub loop-next-preserved-in-Head : goal.loop-next-preserved-in-Head
loop-next-preserved-in-Head c =
    (omega (arith, (within (goal.at.loop-next-preserved-in-Head c).After-step_at _ (c.in_ok-next.was ∙ ap code.Ok c.in-Head.is)).0), left (goal.at.loop-next-preserved-in-Head c).After-step_at _ (c.in_ok-next.was ∙ ap code.Ok c.in-Head.is) ∙ c.loop-next.invariant.1)

pub overflow_add-operations : goal.overflow_add-operations
overflow_add-operations c = let on = within (goal.at.overflow_add-operations c).After-step_at _ (c.in_ok-next.was ∙ ap code.Ok c.in-Operation.is) in omega (arith, on.0, on.1)

pub loop-next-smaller : goal.loop-next-smaller
loop-next-smaller c = let on = within (goal.at.loop-next-smaller c).After-step_at _ (c.in_ok-next.was ∙ ap code.Ok c.in-Operation.is) in omega (arith, on.0, on.1)

pub loop-next-preserved : goal.loop-next-preserved
loop-next-preserved c =
    (omega (arith, (within (goal.at.loop-next-preserved c).After-step_at _ (c.in_ok-next.was ∙ ap code.Ok c.in-Operation.is)).0), left (goal.at.loop-next-preserved c).After-step_at _ (c.in_ok-next.was ∙ ap code.Ok c.in-Operation.is) ∙ c.loop-next.invariant.1)

pub returns-in-End : goal.returns-in-End
returns-in-End c = c.set_end.ensures ∙ left (goal.at.returns-in-End c).After-step_at _ (c.in_ok-next.was ∙ ap code.Ok c.in-End.is) ∙ c.loop-next.invariant.1

pub returns-in_err-next : goal.returns-in_err-next
returns-in_err-next c =
    let p = err_from_is_err_and c.from_residual.result c.from_residual.ensures.1 in
    rw (p.1, p.2) (left (goal.at.returns-in_err-next c).After-step_at _ c.in_err-next.was ∙ c.loop-next.invariant.1)
