-- `projection_patch::read_values::i64_at` meets its contract: eight bytes in two's complement.
use Prim.Native.Nat.{◌+◌}
use native.Mathlib.Omega.{arith}
use mir.Syntax.{w64}
use mir.Val.{SFits}
use mir.Facts.{to_z-of_z}
use borrow.Author.Rules.{rules}
use Rattle.std.proofs.lemmas.Result.{err_from_is_err_and}
use Rattle.projection_patch.proofs.At.{position, IntegerAt, i64_at, i64_short, there, not_there}
use Rattle.projection_patch.proofs.read_values.i64_at.Goals as goal
use Rattle.projection_patch.proofs.read_values.i64_at.Goals.{In_ok-z}

got : (c : In_ok-z) → IntegerAt c.args.part.now c.args.at c.in_ok-z.z
got c =
    i64_at c.args.part.now c.args.at c.in_ok-z.z c.read_i64_at.result c.read_i64_at.ensures (there c.read_i64_at.result c.in_ok-z.z c.in_ok-z.ensures.value)

pub returns-in_err-z : goal.returns-in_err-z
returns-in_err-z c =
    let e = not_there c.read_i64_at.result c.in_err-z.field-0.0 c.in_err-z.ensures.value in
    let p = err_from_is_err_and c.from_residual.result c.from_residual.ensures.1 in
    rw (p.1, p.2, ← e.1, i64_short c.args.part.now c.args.at c.read_i64_at.result c.read_i64_at.ensures e.0)

pub overflow_add-result : goal.overflow_add-result
overflow_add-result c = omega (arith, (got c).room)

pub returns : goal.returns
returns c =
    let fits : SFits w64 c.in_ok-z.z = search rules in
    rw ((got c).is, position c.args.part.now (c.args.at + 8) (got c).room, to_z-of_z fits)
