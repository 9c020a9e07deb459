-- `write_runs` meets its contract: the runs before row i are written; the measure is the rows of the plan that are left.
use Prim.Native.Nat.{ℕ, ◌+◌, ◌-◌}
use mathlib.Core.Path.{◌≡◌, refl, sym, ap, ◌∙◌}
use native.Mathlib.Omega.{arith}
use borrow.Author.Rules.{rules}
use lib.ListN.{length}
use Rattle.spec_lengths.specs.Lengths.{length_record}
use Rattle.panel_rows.specs.Rows.{length_row}
use Rattle.panel_lengths.specs.Runs.{leading, collections_from}
use Rattle.panel_lengths.proofs.Writing.{RunsWritten, none_written, one_written, all_written}
use Rattle.panel_lengths.proofs.write.write_runs.Goals as goal

pub loop-i-init : goal.loop-i-init
loop-i-init c =
    (refl, none_written _ _ (length c.args.to.now) (search rules) c.clear.ensures)

pub overflow_sub-end : goal.overflow_sub-end
overflow_sub-end c = omega (arith, c.run_end-end.ensures)

pub overflow_add-rows : goal.overflow_add-rows
overflow_add-rows c =
    omega (arith, c.loop-i.invariant.1.few, c.loop-i.invariant.1.within)

pub loop-i-smaller : goal.loop-i-smaller
loop-i-smaller c =
    omega (arith, c.run_end-end.ensures)

pub loop-i-preserved : goal.loop-i-preserved
loop-i-preserved c = (
  search rules,
  one_written c.args.plan.now c.args.count c.loop-i.rows c.loop-i.i c.loop-i.invariant.1 (search rules) c.requires.0 c.run_end-end.result
      (c.run_end-end.ensures ∙ ap (λ (b : ℕ). c.loop-i.i + 1 + leading b (collections_from (c.loop-i.i + 1) (c.args.count - (c.loop-i.i + 1)) c.args.plan.now)) c.collection_at-collection.ensures)
      (c.length_row-row.ensures ∙ ap (λ (b : ℕ). length_row (length_record b (c.run_end-end.result - c.loop-i.i))) c.collection_at-collection.ensures) (search rules) c.insert_record.ensures,
)

pub returns : goal.returns
returns c =
    record { held = all_written c.args.plan.now _ c.loop-i.rows c.loop-i.i c.loop-i.invariant.1 (omega arith); long = search rules }
