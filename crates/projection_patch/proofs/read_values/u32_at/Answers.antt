-- `projection_patch::read_values::u32_at` meets its contract: 4 bytes.
use Prim.Native.Nat.{◌+◌}
use native.Mathlib.Omega.{arith}
use Rattle.std.proofs.lemmas.Result.{err_from_is_err_and}
use Rattle.projection_patch.proofs.At.{position, NumberAt, u32_at, u32_short, there, not_there}
use Rattle.projection_patch.proofs.read_values.u32_at.Goals as goal
use Rattle.projection_patch.proofs.read_values.u32_at.Goals.{In_ok-n}

got : (c : In_ok-n) → NumberAt c.args.part.now c.args.at 4 c.in_ok-n.n
got c =
    u32_at c.args.part.now c.args.at c.in_ok-n.n c.read_u32_at.result c.read_u32_at.ensures (there c.read_u32_at.result c.in_ok-n.n c.in_ok-n.ensures.value)

pub returns-in_err-n : goal.returns-in_err-n
returns-in_err-n c =
    let e = not_there c.read_u32_at.result c.in_err-n.field-0.0 c.in_err-n.ensures.value in
    let p = err_from_is_err_and c.from_residual.result c.from_residual.ensures.1 in
    rw (p.1, p.2, ← e.1, u32_short c.args.part.now c.args.at c.read_u32_at.result c.read_u32_at.ensures e.0)

pub overflow_add-result : goal.overflow_add-result
overflow_add-result c = omega (arith, (got c).room)

pub returns : goal.returns
returns c = rw ((got c).is, position c.args.part.now (c.args.at + 4) (got c).room)
