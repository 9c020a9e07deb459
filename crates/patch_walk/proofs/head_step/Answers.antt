-- `patch_walk::head_step` meets its contract: the head reader's answer, told as a step.
use Prim.Native.Nat.{◌+◌, ◌≤◌, ◌<◌}
use lib.ListN.{length}
use Rattle.std.proofs.lemmas.Result.{err_from_is_err_and}
use Rattle.spec_lists.proofs.BytesLaws.{bytes_of}
use Rattle.projection_patch.proofs.At.{there, not_there}
use Rattle.patch_walk.proofs.Reading.{nothing_lent, part_lent, no_head_past, head_on}
use Rattle.patch_walk.proofs.head_step.Goals as goal
use Rattle.patch_walk.proofs.head_step.Goals.{In_ok-head}

-- the head ends within the set
on : (c : In_ok-head) → (c.args.cursor.at < c.args.cursor.at + c.in_ok-head.taken) × (c.args.cursor.at + c.in_ok-head.taken ≤ length c.args.set.now)
on c =
    let p = part_lent c.args.set.now c.args.cursor.at c.get.result c.get.ensures.lookup.0 c.in_ok-rest.rest (there c.get.result c.in_ok-rest.rest c.in_ok-rest.ensures.value) in
    head_on c.args.set.now c.args.cursor p.1 c.read_patch_head.ensures (bytes_of c.args.set.now (λ j. (c.type_inv.set j).fits)) c.in_ok-head.head c.in_ok-head.taken c.in_ok-head.was p.0

pub returns-in_err-rest-clause-is : goal.returns-in_err-rest-clause-is
returns-in_err-rest-clause-is c =
    let e = not_there c.get.result c.in_err-rest.field-0.0 c.in_err-rest.ensures.value in
    let p = err_from_is_err_and c.from_residual.result c.from_residual.ensures.1 in
    rw (p.1, p.2, ← e.1) (no_head_past c.args.set.now c.args.cursor (nothing_lent c.args.set.now c.args.cursor.at c.get.result c.get.ensures.lookup.0 e.0))

pub returns-clause-within : goal.returns-clause-within
returns-clause-within c = on (goal.at.returns-clause-within c).In_ok-head
