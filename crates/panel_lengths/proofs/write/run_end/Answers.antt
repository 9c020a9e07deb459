-- `run_end` meets its contract: the rows that were passed are of the collection.
use Prim.Native.Nat.{◌+◌, ◌-◌, ◌≤◌}
use mathlib.Core.Path.{◌≡◌, refl, sym, ap, ◌∙◌}
use native.Mathlib.Omega.{arith}
use borrow.Author.Rules.{rules}
use Rattle.panel_lengths.specs.Runs.{leading, collections_from}
use Rattle.panel_lengths.specs.RunsLaws.{leading_own, leading_other, leading_end}
use Rattle.panel_lengths.proofs.write.run_end.Goals as goal

pub loop-i-init : goal.loop-i-init
loop-i-init c = refl

pub returns-then-collection_at-collection : goal.returns-then-collection_at-collection
returns-then-collection_at-collection c =
    sym (leading_other c.args.plan.now c.args.count c.loop-i.i (search rules) c.args.collection (λ e. c.if-collection_at-collection.true (c.collection_at.ensures ∙ e))) ∙ c.loop-i.invariant

pub loop-i-preserved : goal.loop-i-preserved
loop-i-preserved c =
    sym (leading_own c.args.plan.now c.args.count c.loop-i.i (search rules) c.args.collection (sym c.collection_at.ensures ∙ search rules)) ∙ c.loop-i.invariant

pub returns : goal.returns
returns c =
    let all : c.args.count ≡ c.loop-i.i = omega arith in
    all ∙ sym (leading_end c.args.plan.now c.args.count c.loop-i.i c.args.collection (omega arith)) ∙ c.loop-i.invariant
