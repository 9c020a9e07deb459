-- `patch_walk::operation_step` meets its contract: the operation reader's answer, told as a step.
use Prim.Native.Nat.{◌+◌, ◌≤◌, ◌<◌}
use lib.ListN.{length}
use Rattle.std.proofs.lemmas.Result.{err_from_is_err_and}
use Rattle.spec_lists.proofs.BytesLaws.{bytes_of}
use Rattle.projection_patch.specs.Meaning.{edition_of}
use Rattle.projection_patch.proofs.At.{there, not_there}
use Rattle.patch_walk.proofs.Reading.{nothing_lent, part_lent, no_operation_past, operation_on}
use Rattle.patch_walk.proofs.operation_step.Goals as goal
use Rattle.patch_walk.proofs.operation_step.Goals.{In_ok-operation}

-- the operation ends within the set
on : (c : In_ok-operation) → (c.args.cursor.at < c.args.cursor.at + c.in_ok-operation.taken) × (c.args.cursor.at + c.in_ok-operation.taken ≤ length c.args.set.now)
on c =
    let p = part_lent c.args.set.now c.args.cursor.at c.get.result c.get.ensures.lookup.0 c.in_ok-rest.rest (there c.get.result c.in_ok-rest.rest c.in_ok-rest.ensures.value) in
    operation_on c.args.set.now c.args.cursor c.args.strict (edition_of c.args.edition) p.1 c.operation_from.ensures (bytes_of c.args.set.now (λ j. (c.type_inv.set j).fits)) c.in_ok-operation.operation c.in_ok-operation.taken c.in_ok-operation.was p.0

pub returns-in_err-rest-clause-is : goal.returns-in_err-rest-clause-is
returns-in_err-rest-clause-is c =
    let e = not_there c.get.result c.in_err-rest.field-0.0 c.in_err-rest.ensures.value in
    let p = err_from_is_err_and c.from_residual.result c.from_residual.ensures.1 in
    rw (p.1, p.2, ← e.1) (no_operation_past c.args.set.now c.args.cursor c.args.strict (edition_of c.args.edition) (nothing_lent c.args.set.now c.args.cursor.at c.get.result c.get.ensures.lookup.0 e.0))

pub returns-clause-within : goal.returns-clause-within
returns-clause-within c = on (goal.at.returns-clause-within c).In_ok-operation
