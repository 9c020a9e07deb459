-- `check_quick::quick_operations::check_with` meets its contract: what is left to read, after what was found, answers as the whole does.
use Prim.Native.Nat.{ℕ, ◌+◌, ◌-◌, ◌*◌, ◌≤◌}
use mathlib.Core.Path.{◌≡◌, refl, sym, ap, ap₂, ◌∙◌}
use mathlib.Core.Bool.{Bool, false, ◌||◌}
use mathlib.Core.List.{List, []}
use native.Mathlib.Omega.{arith}
use lib.ListN.{length, take}
use Rattle.std.specs.Prelude as code
use Rattle.std.proofs.lemmas.Result.{err_from_is_err_and}
use Rattle.spec_lists.proofs.BytesLaws.{bytes_of}
use Rattle.spec_patch.specs.Edition.{Edition}
use Rattle.spec_checks.specs.Target.{MutationTarget}
use Rattle.projection_patch.specs.Meaning.{edition_of}
use Rattle.patch_sets.proofs.ReadAt.{OperationReadAt, operation_at, no_operation_at}
use Rattle.check_targets.specs.Targets.{check_target_of, target_seen}
use Rattle.check_targets.specs.TargetsLaws.{with_target_front, with_target_length}
use Rattle.check_targets.specs.MarksLaws.{marked_none}
use Rattle.check_quick.specs.Anchors.{absent_among}
use Rattle.check_quick.specs.QuickAnswers.{tallied_by}
use Rattle.check_quick.proofs.QuickRuns.{quick_left_answer, none_left, refusal, operations_turn}
use borrow.Author.Rules.{rules}
use Rattle.check_quick.proofs.quick_operations.check_with.Goals as goal
use Rattle.check_quick.proofs.quick_operations.check_with.Goals.{At-loop-i}

abbrev edition : At-loop-i → Edition
edition c = edition_of c.args.edition

pub loop-i-init : goal.loop-i-init
loop-i-init c =
    let all : c.args.count - 0 ≡ c.args.count = omega arith in
    (omega arith, (refl, (marked_none c.args.marks.now (search rules), λ known. ap (λ (n : ℕ). quick_left_answer (edition_of c.args.edition) known c.args.set.now c.args.from n false []) all)))

pub loop-i-preserved : goal.loop-i-preserved
loop-i-preserved c =
    let ed = edition (goal.at.loop-i-preserved c).At-loop-i in
    let i = c.loop-i.i in
    let ts = c.loop-i.targets in
    let own = check_target_of c.mutation_target-target.result in
    let more : 3 * i + 3 ≤ length ts = omega arith in
    let next : 3 * (i + 1) ≡ 3 * i + 3 = omega arith in
    let less : c.args.count - (i + 1) ≡ c.args.count - i - 1 = omega arith in
    let one = operation_at ed c.args.set.now c.loop-i.at c.operation_from.ensures (bytes_of c.args.set.now (λ j. (c.type_inv.set j).fits)) (omega arith) c.in_ok-operation.was in
    let same = ap length c.operation_found-found.ensures.kept ∙ with_target_length (3 * i) own ts more in
    let front = ap₂ take next c.operation_found-found.ensures.kept ∙ with_target_front (3 * i) own ts more in
    let told = c.operation_found-found.ensures.found ∙ ap (λ (b : Bool). c.loop-i.found || (target_seen own (take (3 * i) ts) || b)) (c.before_self-own.ensures []) in (
      one.within,
      (
        omega (arith, same),
        (
          rw front c.operation_found-found.ensures.marked,
          λ known. ap (λ (n : ℕ). quick_left_answer ed known c.args.set.now (c.loop-i.at + c.in_ok-operation.taken) n c.operation_found-found.result (take (3 * (i + 1)) c.operation_found-found.new.targets)) less
              ∙ operations_turn ed known c.args.set.now c.loop-i.at (c.args.count - i) c.loop-i.found (take (3 * i) ts) (omega arith) _ c.in_ok-operation.taken one.got own _ _ (c.mutation_target-target.ensures []) told front ∙ c.loop-i.invariant.1.1.1 known,
        ),
      ),
    )

pub returns-in_err-operation : goal.returns-in_err-operation
returns-in_err-operation c =
    let ed = edition (goal.at.returns-in_err-operation c).At-loop-i in
    let q = err_from_is_err_and c.from_residual.result c.from_residual.ensures.1 in
    λ known. ap (tallied_by known (take (3 * c.args.count) c.loop-i.targets)) (q.1 ∙ ap code.Err q.2)
    ∙ refusal ed known c.args.set.now c.loop-i.at (c.args.count - c.loop-i.i) c.loop-i.found (take (3 * c.loop-i.i) c.loop-i.targets) (omega arith) _ (no_operation_at ed c.args.set.now c.loop-i.at c.operation_from.ensures c.in_err-operation.was)
    ∙ c.loop-i.invariant.1.1.1 known

pub returns : goal.returns
returns c =
    let all : 3 * c.args.count ≡ 3 * c.loop-i.i = omega arith in
    λ known. none_left (edition_of c.args.edition) known c.args.set.now c.loop-i.at (c.args.count - c.loop-i.i) c.loop-i.found (take (3 * c.loop-i.i) c.loop-i.targets) (omega arith) (omega arith) (absent_among known (take (3 * c.args.count) c.loop-i.targets))
    (ap (λ (n : ℕ). absent_among known (take n c.loop-i.targets)) all)
    ∙ c.loop-i.invariant.1.1.1 known
