-- `patch_locate::fields::byte_at_most` meets its contract.
use mathlib.Core.Path.{◌∙◌}
use native.Mathlib.Omega.{arith}
use Rattle.patch_locate.specs.Positions.{at_most_lacking, at_most_past, at_most_over}
use Rattle.std.specs.Prelude.{Err}
use Rattle.std.proofs.Common.{ap}
use Rattle.patch_locate.proofs.fields.byte_at_most.Goals as goal

pub returns-then-part-at : goal.returns-then-part-at
returns-then-part-at c =
    ap Err c.stop_at.ensures ∙ at_most_lacking c.args.part.now c.args.at c.args.rule c.args.highest (omega arith)

pub returns-then-part-at-2 : goal.returns-then-part-at-2
returns-then-part-at-2 c =
    at_most_past c.args.part.now c.args.at c.args.rule c.args.highest (omega arith) (omega arith)

pub returns : goal.returns
returns c =
    ap Err c.outside.ensures ∙ at_most_over c.args.part.now c.args.at c.args.rule c.args.highest (omega arith) (omega arith)
