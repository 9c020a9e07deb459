-- `has_source` meets its contract: the eight bytes spell the source.
use Prim.Native.Nat.{◌+◌, ◌-◌}
use mathlib.Core.Path.{◌≡◌, sym, ap, ◌∙◌}
use mathlib.Core.Bool.{false≢true}
use native.Mathlib.Omega.{arith}
use borrow.Author.Rules.{rules}
use borrow.Author.Tests.{eqb-true}
use lib.ListN.{take, drop}
use Rattle.spec_lists.specs.Bytes.{number_of}
use Rattle.panel_plan.specs.PlanRows.{source_width}
use Rattle.panel_writing.proofs.has_source.Goals as goal

pub returns-then-plan-end : goal.returns-then-plan-end
returns-then-plan-end c = λ e. absurd (false≢true e)

pub returns : goal.returns
returns c = λ e.
    let size : source_width ≡ c.args.at + source_width - c.args.at = omega arith in
    ap (λ n. number_of (take n (drop c.args.at c.args.plan.now))) size ∙ sym c.number_of.ensures ∙ eqb-true _ _ e
