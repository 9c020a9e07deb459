-- `check_set::list_set::list_patches` meets its contract: no patch that is done has findings, and the table holds those of the set so far; the measure is the patches left.
use borrow.Enum.Refused.{opened as one_of}
use Prim.Native.Nat.{ℕ, ◌+◌, ◌≤◌, ◌<◌}
use mathlib.Core.Path.{◌≡◌, refl, sym, ap, ◌∙◌, subst}
use mathlib.Core.Bool.{false}
use mathlib.Core.List.{List, []}
use native.Mathlib.Omega.{arith}
use lib.ListN.{length, length-set}
use Rattle.spec_lists.proofs.BytesLaws.{bytes_of}
use Rattle.spec_patch.specs.Sizes.{set_patches}
use Rattle.spec_patch.specs.Patch.{Patch}
use Rattle.spec_patch.specs.Edition.{Edition}
use Rattle.projection_patch.specs.Meaning.{edition_of}
use Rattle.patch_walk.specs.Steps.{AtSteps}
use Rattle.patch_walk.specs.CountLaws.{StepCounts, step_counts}
use Rattle.patch_walk.specs.Steps.{StepAnswer}
use Rattle.std.specs.Prelude as code
use Rattle.check_set.proofs.Stands.{head_stands}
use Rattle.patch_walk.specs.declared.SetStep.TheVariants as set-step
use Rattle.check_quick.specs.QuickAnswers.{previous_of}
use Rattle.check_set.specs.Listed.{table_length}
use Rattle.check_set.proofs.PatchRuns.{PatchRun, patch_run_start, patch_run_end, patch_run_found, patch_run_turn}
use borrow.Author.Rules.{rules}
use Rattle.check_set.proofs.list_set.list_patches.Goals as goal
use Rattle.check_set.proofs.list_set.list_patches.Goals.{After-next_step}

abbrev set : After-next_step → List ℕ
set c = c.args.set.now

abbrev edition : After-next_step → Edition
edition c = edition_of c.args.edition

counts : (c : After-next_step) (r : StepAnswer) → c.next_step.result ≡ r → StepCounts c.loop-cursor.cursor r
counts c r q =
    subst (StepCounts c.loop-cursor.cursor) (sym c.next_step.ensures.is ∙ q)
    (step_counts false (edition c) (set c) (bytes_of (set c) (λ j. (c.type_inv.set j).fits)) c.loop-cursor.cursor)

-- a patch is left
some_left : (c : After-next_step) → 0 < c.loop-cursor.cursor.patches_left
some_left c = c.loop-cursor-test.true

room : (c : After-next_step) → table_length ≤ length c.loop-cursor.records
room c = omega (arith, c.loop-cursor.invariant.1.0, c.requires)

pub loop-cursor-init : goal.loop-cursor-init
loop-cursor-init c = (omega (arith, c.requires), (refl, (search rules, λ ps here. patch_run_start _ _ ps _ _ _ here)))

pub list_patch-patch-requires : goal.list_patch-patch-requires
list_patch-patch-requires c = omega (arith, (counts (goal.at.list_patch-patch-requires c).After-next_step _ (c.in-Ok.is ∙ ap code.Ok c.in-Head.is)).1)

pub returns-then-patch-gt0 : goal.returns-then-patch-gt0
returns-then-patch-gt0 c =
    λ ps here. patch_run_found _ _ ps (c.loop-cursor.invariant.1.1.1 ps here) (omega (arith, here.patches, c.requires)) (room (goal.at.returns-then-patch-gt0 c).After-next_step) c.next_step.ensures.is _ _ (c.in-Ok.is ∙ ap code.Ok c.in-Head.is) _ _ c.list_patch-patch.ensures.listed c.if-patch-gt0.true

pub loop-cursor-smaller : goal.loop-cursor-smaller
loop-cursor-smaller c =
    let n = counts (goal.at.loop-cursor-smaller c).After-next_step _ (c.in-Ok.is ∙ ap code.Ok c.in-Head.is) in
    omega (arith, n.0, c.list_patch-patch.ensures.patches)

pub loop-cursor-preserved : goal.loop-cursor-preserved
loop-cursor-preserved c =
    let n = counts (goal.at.loop-cursor-preserved c).After-next_step _ (c.in-Ok.is ∙ ap code.Ok c.in-Head.is) in
    let space : c.loop-cursor.done < length c.loop-cursor.ids = omega (arith, some_left (goal.at.loop-cursor-preserved c).After-next_step, c.loop-cursor.invariant.0, c.loop-cursor.invariant.1.1.0) in (
      omega (arith, n.0, c.list_patch-patch.ensures.patches, c.loop-cursor.invariant.0),
      (
        search (rules, c.loop-cursor.invariant.1.0, c.type_inv.records, c.records-1.given, c.type_inv.records, c.records-in-loop-cursor-1.given),
        (
          ap length c.insert_after-kept.ensures.remembered ∙ length-set c.loop-cursor.ids c.loop-cursor.done _ ∙ c.loop-cursor.invariant.1.1.0,
          λ ps here. patch_run_turn _ _ ps (c.loop-cursor.invariant.1.1.1 ps here) (omega (arith, here.patches, c.requires)) (room (goal.at.loop-cursor-preserved c).After-next_step) c.next_step.ensures.is _ _ (c.in-Ok.is ∙ ap code.Ok c.in-Head.is) _ _ c.list_patch-patch.ensures.listed (omega (arith, c.if-patch-gt0.false)) _ _ _ space (c.insert_after-kept.ensures.counted, c.insert_after-kept.ensures.numbers) c.insert_after-kept.ensures.remembered,
        ),
      ),
    )

pub returns-after-loop-cursor : goal.returns-after-loop-cursor
returns-after-loop-cursor c = λ ps here. patch_run_end _ _ ps (c.loop-cursor.invariant.1.1.1 ps here) c.loop-cursor-test.false

pub returns-in_default : goal.returns-in_default
returns-in_default c =
    λ ps here. let s = head_stands false (edition_of c.args.edition) c.args.set.now c.loop-cursor.cursor _ (c.loop-cursor.invariant.1.1.1 ps here).here c.loop-cursor-test.true in
    let z : ◌≡◌ {A = ℕ} 0 1 = cc (sym c.in_default.is ∙ c.next_step.ensures.is ∙ s.2) in absurd (omega arith)

pub returns-in_default-step : goal.returns-in_default-step
returns-in_default-step c =
    λ ps here. let s = head_stands false (edition_of c.args.edition) c.args.set.now c.loop-cursor.cursor _ (c.loop-cursor.invariant.1.1.1 ps here).here c.loop-cursor-test.true in
    let same : c.in-Ok.step ≡ set-step.Head s.0 s.1 = cc (sym c.in-Ok.is ∙ c.next_step.ensures.is ∙ s.2) in
    absurd (c.in_default-step.not-Head _ _ same)
