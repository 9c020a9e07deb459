-- `bytes_printer::print_i64` meets its contract: the magnitude of a number below 0 is (-1 - z) + 1.
use mathlib.Core.Path.{sym, ap, ◌∙◌}
use native.Mathlib.Omega.{arith}
use lib.IntN.{ℤ, pos}
use lib.Signed.{lt_z}
use mir.Facts.{to_z-of_z}
use Rattle.bytes_wire.proofs.Complement.{Below, below, AtLeast, at_least}
use Rattle.bytes_printer.proofs.PrintsLaws.{◌⨾◌, prints_same}
use Rattle.bytes_printer.proofs.Signs.{signed_below, signed_at_least}
use Rattle.bytes_printer.proofs.print_i64.Goals as goal
use Rattle.bytes_printer.proofs.print_i64.Goals.{After-print_u64-arg-1, Else-z-lt0, Then-z-lt0}

is-at-least : (c : Else-z-lt0) → AtLeast c.args.z
is-at-least c = at_least c.args.z c.ranges.z (ap (λ (y : ℤ). lt_z y (pos 0)) (sym (to_z-of_z c.ranges.z)) ∙ c.if-z-lt0.false)

signed_by : (c : After-print_u64-arg-1) → Below c.args.z
signed_by c = (let it : (Below c.args.z) = below c.args.z c.ranges.z (ap (λ (y : ℤ). lt_z y (pos 0)) (sym (to_z-of_z c.ranges.z)) ∙ c.if-z-lt0.true) in it)

pub overflow_sub-z : goal.overflow_sub-z
overflow_sub-z c = rw (signed_by c).flipped (record { sfits = (signed_by c).small })

pub overflow_cast-z : goal.overflow_cast-z
overflow_cast-z c = rw (signed_by c).stored (tt, omega (arith, (signed_by c).small))

pub overflow_add-z : goal.overflow_add-z
overflow_add-z c = rw (signed_by c).stored (omega (arith, (signed_by c).small))

pub overflow_cast-z-else-z-lt0 : goal.overflow_cast-z-else-z-lt0
overflow_cast-z-else-z-lt0 c = rw (to_z-of_z c.ranges.z, (is-at-least (goal.at.overflow_cast-z-else-z-lt0 c).Else-z-lt0).is) (tt, omega (arith, (is-at-least (goal.at.overflow_cast-z-else-z-lt0 c).Else-z-lt0).small))

pub returns-then-z-lt0 : goal.returns-then-z-lt0
returns-then-z-lt0 c =
    prints_same (sym (signed_below _ (signed_by (goal.at.returns-then-z-lt0 c).After-print_u64-arg-1))) (c.print_byte-sign.ensures ⨾ c.print_u64.ensures)

pub returns-else-z-lt0 : goal.returns-else-z-lt0
returns-else-z-lt0 c =
    prints_same (sym (signed_at_least _ c.ranges.z (is-at-least (goal.at.returns-else-z-lt0 c).Else-z-lt0))) c.print_u64-else-z-lt0.ensures
