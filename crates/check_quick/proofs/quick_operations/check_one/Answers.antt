-- `check_quick::quick_operations::check_one` meets its contract: nothing stands before the operation that its target could repeat.
use Prim.Native.Nat.{ℕ, ◌+◌, ◌-◌, ◌*◌, ◌≤◌}
use mathlib.Core.Path.{◌≡◌, refl, sym, ap, ap₂, ◌∙◌}
use mathlib.Core.Bool.{Bool, false, ◌||◌}
use mathlib.Core.List.{List, []}
use native.Mathlib.Omega.{arith}
use lib.ListN.{length, take}
use Rattle.std.specs.Prelude as code
use Rattle.std.proofs.lemmas.Result.{err_from_is_err_and}
use Rattle.spec_lists.proofs.BytesLaws.{bytes_of}
use Rattle.spec_patch.specs.Edition.{Edition}
use Rattle.spec_checks.specs.Target.{MutationTarget}
use Rattle.projection_patch.specs.Meaning.{edition_of}
use Rattle.patch_sets.proofs.ReadAt.{OperationReadAt, operation_at, no_operation_at}
use Rattle.check_targets.specs.Targets.{check_target_of, numbers_of, target_seen}
use Rattle.check_quick.specs.Anchors.{anchored, absent_among}
use Rattle.check_quick.proofs.QuickRuns.{none_left, refusal, operations_turn}
use Rattle.check_quick.proofs.quick_operations.check_one.Goals as goal
use Rattle.check_quick.proofs.quick_operations.check_one.Goals.{After-operation_from}

abbrev edition : After-operation_from → Edition
edition c = edition_of c.args.edition

abbrev known : After-operation_from → MutationTarget → Bool
known c = anchored c.args.nodes.now c.args.bindings.now c.args.collections.now

pub returns-in_err-operation : goal.returns-in_err-operation
returns-in_err-operation c =
    let here = (goal.at.returns-in_err-operation c).After-operation_from in
    let q = err_from_is_err_and c.from_residual.result c.from_residual.ensures.1 in
    q.1 ∙ ap code.Err q.2 ∙ refusal (edition here) (known here) c.args.set.now c.args.at 1 false [] (omega arith) _ (no_operation_at (edition here) c.args.set.now c.args.at c.operation_from.ensures c.in_err-operation.was)

pub returns : goal.returns
unfolding target_seen absent_among
returns c =
    let here = (goal.at.returns c).After-operation_from in
    let one = operation_at (edition here) c.args.set.now c.args.at c.operation_from.ensures (bytes_of c.args.set.now (λ j. (c.type_inv.set j).fits)) (omega arith) c.in_ok-operation.was in
    let own = check_target_of c.mutation_target-target.result in
    none_left (edition here) (known here) c.args.set.now (c.args.at + c.in_ok-operation.taken) 0 c.before_self-found.result (numbers_of own) one.within refl c.one_if_absent-absent.result (omega (arith, c.one_if_absent-absent.ensures))
    ∙ operations_turn (edition here) (known here) c.args.set.now c.args.at 1 false [] (omega arith) _ c.in_ok-operation.taken one.got own c.before_self-found.result (numbers_of own) (c.mutation_target-target.ensures []) (c.before_self-found.ensures []) refl
