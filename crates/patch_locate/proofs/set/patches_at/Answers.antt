-- `patch_locate::set::patches_at` meets its contract: the patches that are left answer from the next position on as all of them do.
use Prim.Native.Nat.{ℕ, ◌+◌, ◌-◌}
use mathlib.Core.Path.{◌≡◌, sym, ap, ◌∙◌}
use mathlib.Core.List.{List}
use native.Mathlib.Omega.{arith}
use lib.ListN.{length, drop}
use Rattle.spec_patch.specs.Edition.{Edition}
use Rattle.spec_explain.specs.Locate.{Locator, ◌⨟◌, repeated, locate_patch}
use Rattle.spec_explain.proofs.SteadySetLaws.{steady_patch}
use Rattle.projection_patch.specs.Meaning.{edition_of}
use Rattle.patch_locate.specs.Answers.{located_answer, within_to}
use Rattle.patch_locate.specs.Fields.{patch_fields}
use Rattle.patch_locate.specs.Positions.{past_here, went, locates_on, locates_stop}
use Rattle.patch_locate.specs.SetPositions.{repeated_start, repeated_turn, repeated_end, within_is, patch_located}
use Rattle.patch_locate.specs.declared.rules.Inside.TheVariants as insides
use Rattle.std.proofs.lemmas.Result.{err_from_is_err_and}
use Rattle.patch_locate.proofs.set.patches_at.Goals as goal
use Rattle.patch_locate.proofs.set.patches_at.Goals.{After-within}

abbrev set : After-within → List ℕ
set c = c.args.set.now

abbrev edition : After-within → Edition
edition c = edition_of c.args.edition

abbrev one : After-within → Locator
one c = locate_patch (edition c) c.loop-i.i

abbrev others : After-within → Locator
others c = repeated (locate_patch (edition c)) (c.loop-i.i + 1) (c.args.count - (c.loop-i.i + 1))

-- the patch in its place
told : (c : After-within) → c.within.result ≡ located_answer (length (set c)) (one c (drop c.loop-i.next (set c)))
told c =
    let bs = drop c.loop-i.next (set c) in
    c.within.ensures ∙ ap (within_to (insides.Patch c.loop-i.i)) c.patch_fields-patch.ensures
    ∙ within_is (length (set c)) (insides.Patch c.loop-i.i) (patch_fields (edition c) c.loop-i.i bs)
    ∙ ap (located_answer (length (set c))) (patch_located (edition c) c.loop-i.i bs)

turn : (c : After-within) → located_answer (length (set c)) (repeated (locate_patch (edition c)) c.loop-i.i (c.args.count - c.loop-i.i) (drop c.loop-i.next (set c)))
    ≡ located_answer (length (set c)) ((one c ⨟ others c) (drop c.loop-i.next (set c)))
turn c = ap (located_answer (length (set c))) (repeated_turn (locate_patch (edition c)) c.args.count c.loop-i.i (drop c.loop-i.next (set c)) (omega arith))

pub loop-i-init : goal.loop-i-init
loop-i-init c =
    (omega arith, (omega arith, ap (located_answer (length c.args.set.now)) (repeated_start (locate_patch (edition_of c.args.edition)) c.args.count (drop c.args.at c.args.set.now))))

pub returns-in_err-next : goal.returns-in_err-next
returns-in_err-next c =
    let p = err_from_is_err_and c.from_residual.result c.from_residual.ensures.1 in rw (p.1, p.2) (
    locates_stop (one (goal.at.returns-in_err-next c).After-within) (others (goal.at.returns-in_err-next c).After-within) (set (goal.at.returns-in_err-next c).After-within) c.loop-i.next c.within.result (told (goal.at.returns-in_err-next c).After-within) _ c.in_err-next.was
    ∙ sym (turn (goal.at.returns-in_err-next c).After-within) ∙ c.loop-i.invariant.1.1)

pub loop-i-preserved : goal.loop-i-preserved
loop-i-preserved c =
    let steady = steady_patch (edition (goal.at.loop-i-preserved c).After-within) c.loop-i.i in (
      (went steady (set (goal.at.loop-i-preserved c).After-within) c.loop-i.next c.within.result (told (goal.at.loop-i-preserved c).After-within) _ c.in_ok-next.was).within,
      (
        omega arith,
        locates_on steady (set (goal.at.loop-i-preserved c).After-within) c.loop-i.next c.within.result (told (goal.at.loop-i-preserved c).After-within) (others (goal.at.loop-i-preserved c).After-within) _ c.in_ok-next.was ∙ sym (turn (goal.at.loop-i-preserved c).After-within) ∙ c.loop-i.invariant.1.1,
      ),
    )

pub returns : goal.returns
returns c =
    past_here c.args.set.now c.loop-i.next c.loop-i.invariant.0
    ∙ ap (located_answer (length c.args.set.now)) (sym (repeated_end (locate_patch (edition_of c.args.edition)) c.args.count c.loop-i.i (drop c.loop-i.next c.args.set.now) (omega arith)))
    ∙ c.loop-i.invariant.1.1
