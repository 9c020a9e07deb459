-- `patch_locate::fields::number_at` meets its contract: there is room, or too few bytes.
use Prim.Native.Nat.{◌+◌}
use mathlib.Core.Path.{sym, ◌∙◌}
use native.Mathlib.Omega.{arith}
use lib.ListN.{length}
use borrow.Author.Tests.{leb-true, leb-false}
use Rattle.patch_locate.specs.Positions.{number_past, number_stop}
use Rattle.std.specs.Prelude.{Err}
use Rattle.std.proofs.Common.{ap}
use Rattle.patch_locate.proofs.fields.number_at.Goals as goal

pub overflow_add-result : goal.overflow_add-result
overflow_add-result c =
    omega (arith, leb-true (c.args.at + c.args.width) (length c.args.part.now) (sym c.has_room.ensures ∙ c.if-has_room.true))

pub returns-then-has_room : goal.returns-then-has_room
returns-then-has_room c =
    number_past c.args.part.now c.args.at c.args.width (leb-true _ _ (sym c.has_room.ensures ∙ c.if-has_room.true))

pub returns : goal.returns
returns c =
    ap Err c.stop_at.ensures ∙ number_stop c.args.part.now c.args.at c.args.width (leb-false _ _ (sym c.has_room.ensures ∙ c.if-has_room.false)) (omega arith)
