-- `projection_patch::read_values::u64_at` meets its contract: 8 bytes.
use Prim.Native.Nat.{◌+◌}
use native.Mathlib.Omega.{arith}
use Rattle.std.proofs.lemmas.Result.{err_from_is_err_and}
use Rattle.projection_patch.proofs.At.{position, NumberAt, u64_at, u64_short, there, not_there}
use Rattle.projection_patch.proofs.read_values.u64_at.Goals as goal
use Rattle.projection_patch.proofs.read_values.u64_at.Goals.{In_ok-n}

got : (c : In_ok-n) → NumberAt c.args.part.now c.args.at 8 c.in_ok-n.n
got c =
    u64_at c.args.part.now c.args.at c.in_ok-n.n c.read_u64_at.result c.read_u64_at.ensures (there c.read_u64_at.result c.in_ok-n.n c.in_ok-n.ensures.value)

pub returns-in_err-n : goal.returns-in_err-n
returns-in_err-n c =
    let e = not_there c.read_u64_at.result c.in_err-n.field-0.0 c.in_err-n.ensures.value in
    let p = err_from_is_err_and c.from_residual.result c.from_residual.ensures.1 in
    rw (p.1, p.2, ← e.1, u64_short c.args.part.now c.args.at c.read_u64_at.result c.read_u64_at.ensures e.0)

pub overflow_add-result : goal.overflow_add-result
overflow_add-result c = omega (arith, (got c).room)

pub returns : goal.returns
returns c = rw ((got c).is, position c.args.part.now (c.args.at + 8) (got c).room)
