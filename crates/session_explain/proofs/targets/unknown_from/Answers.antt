-- `session_explain::targets::unknown_from` meets its contract: what is left gives what the whole walk gives; the measure is the bytes left.
use Rattle.std.specs.Prelude as code
use Prim.Native.Nat.{ℕ, ◌-◌, ◌≤◌}
use mathlib.Core.Path.{◌≡◌, refl, sym, ap, ◌∙◌, subst}
use mathlib.Core.Bool.{false}
use mathlib.Core.List.{List, []}
use native.Mathlib.Omega.{arith}
use lib.ListN.{length}
use Rattle.spec_patch.specs.Edition.{Edition}
use Rattle.spec_patch.specs.Patch.{Patch}
use Rattle.spec_session.specs.Session.{Catalogue}
use Rattle.spec_explain.specs.Walk.{walk_patches, tested}
use Rattle.spec_explain.specs.Explain.{target_known}
use Rattle.projection_patch.specs.Meaning.{edition_of}
use Rattle.projection_patch.specs.ReadAnswers.{lent_from}
use Rattle.patch_walk.specs.Steps.{StepWithin, AtSteps}
use Rattle.patch_walk.proofs.StepsLaws.{visited, opened, done, never_refused}
use Rattle.patch_walk.specs.Steps.{StepAnswer}
use Rattle.session_gates.specs.Lent.{Lent}
use Rattle.session_explain.specs.Unknown.{unknown_to}
use Rattle.panel_steps.specs.Walking.{Walking, walk_start, walk_end, walk_head, walk_on_lem, walk_halts}
use Rattle.session_explain.specs.UnknownLaws.{step_on, step_halts}
use borrow.Author.Rules.{rules}
use Rattle.session_explain.proofs.targets.unknown_from.Goals as goal
use Rattle.session_explain.proofs.targets.unknown_from.Goals.{After-next_step}

abbrev set : After-next_step → List ℕ
set k = k.args.set.now

abbrev told : After-next_step → Edition
told k = edition_of k.args.edition

within : (k : After-next_step) (r : StepAnswer) → k.next_step.result ≡ r → StepWithin k.loop-next.cursor (length (set k)) r
within k r q = subst (StepWithin k.loop-next.cursor (length (set k))) q k.next_step.ensures.within

pub loop-next-init : goal.loop-next-init
loop-next-init c = (omega arith, (omega arith, λ k ps lent here. walk_start _ _ _ _ ps tt here refl))

pub overflow_add-opened : goal.overflow_add-opened
overflow_add-opened c = let on = within (goal.at.overflow_add-opened c).After-next_step _ (c.in_ok-next.was ∙ ap code.Ok c.in-Head.is) in omega (arith, on.0, on.1)

pub loop-next-smaller-in-Head : goal.loop-next-smaller-in-Head
loop-next-smaller-in-Head c = let on = within (goal.at.loop-next-smaller-in-Head c).After-next_step _ (c.in_ok-next.was ∙ ap code.Ok c.in-Head.is) in omega (arith, on.0, on.1)

pub loop-next-preserved-in-Head : goal.loop-next-preserved-in-Head
loop-next-preserved-in-Head c =
    let on = within (goal.at.loop-next-preserved-in-Head c).After-next_step _ (c.in_ok-next.was ∙ ap code.Ok c.in-Head.is) in (
      omega (arith, on.0),
      (
        omega arith,
        λ cat ps lent here.
            let w = c.loop-next.invariant.1.1 cat ps lent here in
            walk_head _ (told (goal.at.loop-next-preserved-in-Head c).After-next_step) (set (goal.at.loop-next-preserved-in-Head c).After-next_step) _ w (opened false (told (goal.at.loop-next-preserved-in-Head c).After-next_step) (set (goal.at.loop-next-preserved-in-Head c).After-next_step) c.loop-next.cursor w.here c.next_step.ensures.is _ _ (c.in_ok-next.was ∙ ap code.Ok c.in-Head.is)),
      ),
    )

pub overflow_add-index : goal.overflow_add-index
overflow_add-index c = let on = within (goal.at.overflow_add-index c).After-next_step _ (c.in_ok-next.was ∙ ap code.Ok c.in-Operation.is) in omega (arith, on.0, on.1)

pub loop-next-smaller : goal.loop-next-smaller
loop-next-smaller c = let on = within (goal.at.loop-next-smaller c).After-next_step _ (c.in_ok-next.was ∙ ap code.Ok c.in-Operation.is) in omega (arith, on.0, on.1)

pub loop-next-preserved : goal.loop-next-preserved
loop-next-preserved c =
    let on = within (goal.at.loop-next-preserved c).After-next_step _ (c.in_ok-next.was ∙ ap code.Ok c.in-Operation.is) in (
      omega (arith, on.0),
      (
        omega (arith, on.0),
        λ cat ps lent here.
            let w = c.loop-next.invariant.1.1 cat ps lent here in
            let v = visited false (told (goal.at.loop-next-preserved c).After-next_step) (set (goal.at.loop-next-preserved c).After-next_step) c.loop-next.cursor w.here c.next_step.ensures.is _ _ (c.in_ok-next.was ∙ ap code.Ok c.in-Operation.is) in
            walk_on_lem _ (told (goal.at.loop-next-preserved c).After-next_step) (set (goal.at.loop-next-preserved c).After-next_step) _ w v tt
            (step_on (target_known cat) _ v.first (sym (ap (target_known cat) v.means) ∙ sym (c.target_known.ensures cat (lent_from (set (goal.at.loop-next-preserved c).After-next_step) c.loop-next.cursor.at) lent) ∙ c.if-not-target_known.false)),
      ),
    )

pub returns-then-not-target_known : goal.returns-then-not-target_known
returns-then-not-target_known c =
    λ cat ps lent here.
    let w = c.loop-next.invariant.1.1 cat ps lent here in
    let v = visited false (told (goal.at.returns-then-not-target_known c).After-next_step) (set (goal.at.returns-then-not-target_known c).After-next_step) c.loop-next.cursor w.here c.next_step.ensures.is _ _ (c.in_ok-next.was ∙ ap code.Ok c.in-Operation.is) in
    sym (ap unknown_to (walk_halts _ (told (goal.at.returns-then-not-target_known c).After-next_step) (set (goal.at.returns-then-not-target_known c).After-next_step) _ w v
    (step_halts (target_known cat) _ v.first (sym (ap (target_known cat) v.means) ∙ sym (c.target_known.ensures cat (lent_from (set (goal.at.returns-then-not-target_known c).After-next_step) c.loop-next.cursor.at) lent) ∙ c.if-not-target_known.true))))

pub returns-in-End : goal.returns-in-End
returns-in-End c =
    λ cat ps lent here.
    let w = c.loop-next.invariant.1.1 cat ps lent here in
    sym (ap unknown_to (walk_end _ (told (goal.at.returns-in-End c).After-next_step) (set (goal.at.returns-in-End c).After-next_step) _ w (done false (told (goal.at.returns-in-End c).After-next_step) (set (goal.at.returns-in-End c).After-next_step) c.loop-next.cursor w.here c.next_step.ensures.is (c.in_ok-next.was ∙ ap code.Ok c.in-End.is))))

pub returns-in_err-next : goal.returns-in_err-next
returns-in_err-next c =
    λ cat ps lent here.
    let w = c.loop-next.invariant.1.1 cat ps lent here in
    absurd (never_refused false (told (goal.at.returns-in_err-next c).After-next_step) (set (goal.at.returns-in_err-next c).After-next_step) c.loop-next.cursor w.here c.next_step.ensures.is _ c.in_err-next.was)
