-- `check_quick::inspection::inspect_patches` meets its contract: what is left, after what was counted and found, answers as the whole does.
use Prim.Native.Nat.{ℕ, ◌+◌, ◌-◌, ◌*◌, ◌≤◌, ◌<◌}
use mathlib.Core.Path.{◌≡◌, refl, ap, ◌∙◌}
use mathlib.Core.Bool.{Bool, false}
use mathlib.Core.List.{List, []}
use mathlib.Core.Option.{none, some}
use native.Mathlib.Omega.{arith}
use lib.ListN.{length, take, drop, length-set}
use Rattle.spec_lists.specs.Bytes.{Bytes}
use Rattle.spec_lists.proofs.BytesLaws.{bytes_of}
use Rattle.spec_patch.specs.Sizes.{patch_operations}
use Rattle.spec_patch.specs.Edition.{Edition}
use Rattle.spec_patch.specs.Reader.{many}
use Rattle.spec_patch.specs.Read.{read_patch, ended}
use Rattle.spec_checks.specs.Target.{MutationTarget}
use Rattle.projection_patch.specs.Meaning.{edition_of, envelope_of}
use Rattle.projection_patch.specs.ReadAnswers.{anywhere}
use Rattle.projection_patch.proofs.Answers.{Got}
use Rattle.patch_sets.proofs.Runs.{few}
use Rattle.std.specs.Prelude as code
use Rattle.std.proofs.lemmas.Result.{err_from_is_err_and}
use Rattle.check_quick.specs.Anchors.{anchored}
use Rattle.check_quick.specs.Quick.{AtMost, least_patch}
use Rattle.check_quick.specs.QuickAnswers.{previous_of, quick_checked_to, inspection_answer}
use Rattle.projection_patch.specs.declared.read_values.ProjectionPatchReadFault.{ProjectionPatchReadFault}
use Rattle.check_quick.specs.declared.inspection.SetInspection.{SetInspection}
use Rattle.check_quick.proofs.QuickSets.{PassedPatches, passed_patches, patch_got, no_patch, least_taken, patches_left, none_passed, patch_refused, count_is, few_absent, at_most_still, patches_turn, patches_end}
use Rattle.check_quick.proofs.inspection.inspect_patches.Goals as goal
use Rattle.check_quick.proofs.inspection.inspect_patches.Goals.{At-loop-done, In_ok-patch}

abbrev edition : At-loop-done → Edition
edition c = edition_of c.args.edition

abbrev known : At-loop-done → MutationTarget → Bool
known c = anchored c.args.nodes.now c.args.bindings.now c.args.collections.now

abbrev left : At-loop-done → ℕ
left c = c.args.count - c.loop-done.done

abbrev before : At-loop-done → PassedPatches
before c = passed_patches c.loop-done.done c.loop-done.operations c.loop-done.absent c.loop-done.found

all_bytes : (c : At-loop-done) → Bytes c.args.set.now
all_bytes c = bytes_of c.args.set.now (λ j. (c.type_inv.set j).fits)

-- where the loop stands at a patch that was read
abbrev here : In_ok-patch → At-loop-done
here c = (goal.at.In_ok-patch c).At-loop-done

one : (c : In_ok-patch) → Got (read_patch (edition (here c))) (anywhere (quick_checked_to (known (here c)))) c.args.set.now c.loop-done.at c.in_ok-patch.patch c.in_ok-patch.end
one c = patch_got (edition (here c)) (known (here c)) c.args.set.now c.loop-done.at c.check_patch.ensures (all_bytes (here c)) c.in_ok-patch.was

-- a patch has no more operations than it may, and no more absent targets than operations
small : (c : In_ok-patch) → (c.in_ok-patch.patch.head.operation_count ≤ patch_operations) × (c.in_ok-patch.patch.absent ≤ c.in_ok-patch.patch.head.operation_count)
small c =
    let g = one c in (
      rw (count_is (edition (here c)) (known (here c)) c.args.set.now c.loop-done.at (left (here c)) (before (here c)) (previous_of c.loop-done.previous) (omega arith) c.in_ok-patch.patch c.in_ok-patch.end g) (few (edition (here c)) c.args.set.now c.loop-done.at (all_bytes (here c)) g.a (drop c.in_ok-patch.end c.args.set.now) g.is),
      few_absent (edition (here c)) (known (here c)) c.args.set.now c.loop-done.at (left (here c)) (before (here c)) (previous_of c.loop-done.previous) (omega arith) c.in_ok-patch.patch c.in_ok-patch.end g,
    )

-- the patch takes its bytes, and so there is room for its id
taken : (c : In_ok-patch) → (c.loop-done.at + least_patch ≤ c.in_ok-patch.end) × (c.in_ok-patch.end ≤ length c.args.set.now)
taken c =
    let g = one c in
    (least_taken (edition (here c)) (known (here c)) c.args.set.now c.loop-done.at (all_bytes (here c)) (omega arith) c.in_ok-patch.patch c.in_ok-patch.end g, omega (arith, g.there))

below : (c : In_ok-patch) → c.loop-done.done < length c.loop-done.ids
below c =
    let t = taken c in
    let room : c.loop-done.done + 1 ≤ length c.args.ids.now = c.requires.1.1 (c.loop-done.done + 1) (omega arith) (omega (arith, t.0, t.1)) in
    omega (arith, room)

pub loop-done-init : goal.loop-done-init
loop-done-init c =
    let all : c.args.count - 0 ≡ c.args.count = omega arith in
    let start : ℕ → code.Result SetInspection ProjectionPatchReadFault = λ n. patches_left (edition_of c.args.edition) (anchored c.args.nodes.now c.args.bindings.now c.args.collections.now) c.args.set.now c.args.from n (passed_patches 0 0 0 false) [] none in
    (omega arith, (omega arith, (omega arith, ((refl, omega arith), (tt, ap start all ∙ none_passed (edition_of c.args.edition) (anchored c.args.nodes.now c.args.bindings.now c.args.collections.now) c.args.set.now c.args.from c.args.count)))))

pub returns-in_err-patch : goal.returns-in_err-patch
returns-in_err-patch c =
    let at_loop = (goal.at.returns-in_err-patch c).At-loop-done in
    let q = err_from_is_err_and c.from_residual.result c.from_residual.ensures.1 in
    q.1 ∙ ap code.Err q.2
    ∙ patch_refused (edition at_loop) (known at_loop) c.args.set.now c.loop-done.at (left at_loop) (before at_loop) (previous_of c.loop-done.previous) (omega arith) (take c.loop-done.done c.loop-done.ids) _
    (no_patch (edition at_loop) (known at_loop) c.args.set.now c.loop-done.at c.check_patch.ensures c.in_err-patch.was)
    ∙ c.loop-done.invariant.1.1.1.1.1

pub after_found-found-requires : goal.after_found-found-requires
after_found-found-requires c = (below (goal.at.after_found-found-requires c).In_ok-patch, c.loop-done.invariant.1.1.1.1.0)

pub overflow_add-absent : goal.overflow_add-absent
overflow_add-absent c = let s = small (goal.at.overflow_add-absent c).In_ok-patch in omega (arith, s.0, s.1)

pub overflow_add-operations : goal.overflow_add-operations
overflow_add-operations c = let s = small (goal.at.overflow_add-operations c).In_ok-patch in omega (arith, s.0)

pub loop-done-preserved : goal.loop-done-preserved
loop-done-preserved c =
    let turn = (goal.at.loop-done-preserved c).In_ok-patch in
    let at_loop = (goal.at.loop-done-preserved c).At-loop-done in
    let g = one turn in
    let s = small turn in
    let fits = below turn in
    let t = taken turn in
    let x = c.in_ok-patch.patch in
    let less : c.args.count - (c.loop-done.done + 1) ≡ c.args.count - c.loop-done.done - 1 = omega arith in
    let id = (envelope_of x.head.envelope).id in
    let still = at_most_still c.loop-done.ids _ c.loop-done.done id c.loop-done.highest c.max-highest.result fits c.after_found-found.ensures.kept c.loop-done.invariant.1.1.1.1.0 (omega (arith, c.max-highest.ensures)) (omega (arith, c.max-highest.ensures, c.raw.ensures)) in
    let rest : ℕ → code.Result SetInspection ProjectionPatchReadFault = λ n. patches_left (edition at_loop) (known at_loop) c.args.set.now c.in_ok-patch.end n (passed_patches (c.loop-done.done + 1) (c.loop-done.operations + x.head.operation_count) (c.loop-done.absent + x.absent) c.after_found-found.result) (take (c.loop-done.done + 1) c.after_found-found.new.ids) (some (envelope_of x.head.envelope)) in (
      t.1,
      (
        omega (arith, s.0),
        (
          omega (arith, s.1),
          (
            (ap length c.after_found-found.ensures.kept ∙ length-set c.loop-done.ids c.loop-done.done _ ∙ c.loop-done.invariant.1.1.1.0.0, omega (arith, t.0)),
            (
              still,
              ap rest less
                  ∙ patches_turn (edition at_loop) (known at_loop) c.args.set.now c.loop-done.at (left at_loop) (before at_loop) (previous_of c.loop-done.previous) (omega arith) x c.in_ok-patch.end g _ c.loop-done.ids _ fits c.after_found-found.ensures.found c.after_found-found.ensures.kept ∙ c.loop-done.invariant.1.1.1.1.1,
            ),
          ),
        ),
      ),
    )

pub returns : goal.returns
returns c =
    let at_loop = (goal.at.returns c).At-loop-done in
    c.at_end.ensures
    ∙ patches_end (edition at_loop) (known at_loop) c.args.set.now c.loop-done.at (left at_loop) (before at_loop) (previous_of c.loop-done.previous) (take c.loop-done.done c.loop-done.ids) c.args.count (omega arith) (omega arith)
    ∙ c.loop-done.invariant.1.1.1.1.1
