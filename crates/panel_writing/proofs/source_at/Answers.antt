-- `source_at` meets its contract: the eight bytes, or those of them that are there.
use Prim.Native.Nat.{◌+◌, ◌-◌}
use mathlib.Core.Path.{◌≡◌, sym, ap, ◌∙◌}
use native.Mathlib.Omega.{arith}
use borrow.Author.Rules.{rules}
use lib.ListN.{take, drop}
use Rattle.spec_lists.specs.Bytes.{number_of}
use Rattle.panel_plan.specs.PlanRows.{source_width}
use Rattle.panel_writing.proofs.source_at.Goals as goal

pub returns : goal.returns
returns c =
    let size : c.args.at + source_width - c.args.at ≡ source_width = omega arith in
    c.number_of.ensures ∙ ap (λ n. number_of (take n (drop c.args.at c.args.plan.now))) size
