-- `patch_locate::set::operations_at` meets its contract: the operations that are left answer from the next position on as all of them do.
use Prim.Native.Nat.{ℕ, ◌+◌, ◌-◌}
use mathlib.Core.Path.{◌≡◌, sym, ap, ◌∙◌}
use mathlib.Core.List.{List}
use native.Mathlib.Omega.{arith}
use lib.ListN.{length, drop}
use Rattle.spec_patch.specs.Edition.{Edition}
use Rattle.spec_explain.specs.Locate.{Locator, ◌⨟◌, repeated, locate_operation}
use Rattle.projection_patch.specs.Meaning.{edition_of}
use Rattle.patch_locate.specs.Answers.{located_answer, within_to}
use Rattle.patch_locate.specs.Fields.{operation_in}
use Rattle.patch_locate.specs.Positions.{past_here, went, locates_on, locates_stop}
use Rattle.patch_locate.specs.SetPositions.{repeated_start, repeated_turn, repeated_end, within_is, steady_operation_in}
use Rattle.patch_locate.specs.declared.rules.Inside.TheVariants as insides
use Rattle.std.proofs.lemmas.Result.{err_from_is_err_and}
use Rattle.patch_locate.proofs.set.operations_at.Goals as goal
use Rattle.patch_locate.proofs.set.operations_at.Goals.{After-within}

abbrev set : After-within → List ℕ
set c = c.args.set.now

abbrev patch : After-within → ℕ
patch c = c.args.patch

abbrev edition : After-within → Edition
edition c = edition_of c.args.edition

abbrev one : After-within → Locator
one c = operation_in (edition c) (patch c) c.loop-j.j

abbrev others : After-within → Locator
others c = repeated (operation_in (edition c) (patch c)) (c.loop-j.j + 1) (c.args.count - (c.loop-j.j + 1))

-- the operation in its place
told : (c : After-within) → c.within.result ≡ located_answer (length (set c)) (one c (drop c.loop-j.next (set c)))
unfolding operation_in
told c =
    c.within.ensures ∙ ap (within_to (insides.Operation (patch c) c.loop-j.j)) c.operation_at-operation.ensures
    ∙ within_is (length (set c)) (insides.Operation (patch c) c.loop-j.j) (locate_operation (edition c) (drop c.loop-j.next (set c)))

turn : (c : After-within) → located_answer (length (set c)) (repeated (operation_in (edition c) (patch c)) c.loop-j.j (c.args.count - c.loop-j.j) (drop c.loop-j.next (set c)))
    ≡ located_answer (length (set c)) ((one c ⨟ others c) (drop c.loop-j.next (set c)))
turn c = ap (located_answer (length (set c))) (repeated_turn (operation_in (edition c) (patch c)) c.args.count c.loop-j.j (drop c.loop-j.next (set c)) (omega arith))

pub loop-j-init : goal.loop-j-init
loop-j-init c =
    (omega arith, (omega arith, ap (located_answer (length c.args.set.now)) (repeated_start (operation_in (edition_of c.args.edition) c.args.patch) c.args.count (drop c.args.at c.args.set.now))))

pub returns-in_err-next : goal.returns-in_err-next
returns-in_err-next c =
    let p = err_from_is_err_and c.from_residual.result c.from_residual.ensures.1 in rw (p.1, p.2) (
    locates_stop (one (goal.at.returns-in_err-next c).After-within) (others (goal.at.returns-in_err-next c).After-within) (set (goal.at.returns-in_err-next c).After-within) c.loop-j.next c.within.result (told (goal.at.returns-in_err-next c).After-within) _ c.in_err-next.was
    ∙ sym (turn (goal.at.returns-in_err-next c).After-within) ∙ c.loop-j.invariant.1.1)

pub loop-j-preserved : goal.loop-j-preserved
loop-j-preserved c =
    let steady = steady_operation_in (edition (goal.at.loop-j-preserved c).After-within) (patch (goal.at.loop-j-preserved c).After-within) c.loop-j.j in (
      (went steady (set (goal.at.loop-j-preserved c).After-within) c.loop-j.next c.within.result (told (goal.at.loop-j-preserved c).After-within) _ c.in_ok-next.was).within,
      (
        omega arith,
        locates_on steady (set (goal.at.loop-j-preserved c).After-within) c.loop-j.next c.within.result (told (goal.at.loop-j-preserved c).After-within) (others (goal.at.loop-j-preserved c).After-within) _ c.in_ok-next.was ∙ sym (turn (goal.at.loop-j-preserved c).After-within) ∙ c.loop-j.invariant.1.1,
      ),
    )

pub returns : goal.returns
returns c =
    past_here c.args.set.now c.loop-j.next c.loop-j.invariant.0
    ∙ ap (located_answer (length c.args.set.now)) (sym (repeated_end (operation_in (edition_of c.args.edition) c.args.patch) c.args.count c.loop-j.j (drop c.loop-j.next c.args.set.now) (omega arith)))
    ∙ c.loop-j.invariant.1.1
