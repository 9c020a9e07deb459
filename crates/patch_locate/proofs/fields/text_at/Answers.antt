-- `patch_locate::fields::text_at` meets its contract: the length, then the text.
use mathlib.Core.Path.{◌∙◌}
use native.Mathlib.Omega.{arith}
use Rattle.projection_patch.proofs.At.{NumberAt, u32_at, u32_short}
use Rattle.patch_locate.specs.TextPositions.{text_behind, length_lacking}
use Rattle.std.specs.Prelude.{Err}
use Rattle.std.proofs.Common.{ap}
use Rattle.patch_locate.proofs.fields.text_at.Goals as goal
use Rattle.patch_locate.proofs.fields.text_at.Goals.{In-Some}

got : (c : In-Some) → NumberAt c.args.part.now c.args.at 4 c.in-Some.len
got c =
    u32_at c.args.part.now c.args.at c.in-Some.len c.read_u32_at.result c.read_u32_at.ensures c.in-Some.is

pub text_from-requires : goal.text_from-requires
text_from-requires c = omega (arith, (got c).room)

pub returns-in-Some : goal.returns-in-Some
returns-in-Some c =
    c.text_from.ensures ∙ text_behind c.args.part.now c.args.at _ (got (goal.at.returns-in-Some c).In-Some).is

pub returns-in-None : goal.returns-in-None
returns-in-None c =
    ap Err c.stop_at.ensures ∙ length_lacking c.args.part.now c.args.at (u32_short c.args.part.now c.args.at c.read_u32_at.result c.read_u32_at.ensures c.in-None.is)
