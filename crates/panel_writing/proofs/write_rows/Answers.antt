-- `write_rows` meets its contract: the rows before the i-th are written; the measure is the rows left.
use Prim.Native.Nat.{◌+◌, ◌-◌, ◌*◌, ◌≤◌}
use mathlib.Core.Path.{◌≡◌, refl, sym, ap, ◌∙◌, subst}
use native.Mathlib.Nat.{add-mul, mul-le-mul}
use native.Mathlib.Omega.{arith}
use borrow.Author.Rules.{rules}
use lib.ListN.{length}
use Rattle.projection_patch.specs.Meaning.{edition_of}
use Rattle.bytes_records.proofs.Offsets.{start_le}
use Rattle.spec_patch.specs.Sizes.{projection_entries}
use Rattle.panel_rows.specs.Rows.{value_width, entry_value_at, entry_width, field_at}
use Rattle.panel_plan.specs.PlanRows.{source_width}
use Rattle.panel_writing.specs.Writing.{row_at, RowRun, new_row}
use Rattle.panel_writing.proofs.Bytes.{field_there, planned, planned_keeps, planned_splits, planned_by}
use Rattle.panel_writing.proofs.Turns.{RowsWritten, no_rows_written, same_size, run_written, rest_cleared}
use Rattle.panel_writing.proofs.write_rows.Goals as goal
use Rattle.panel_writing.proofs.write_rows.Goals.{After-row_at-row, After-run_length-n, At-loop-i}

-- the rows of a run stand in the table, and so do all
room : (c : After-run_length-n) → c.loop-i.i * (c.args.key + value_width) + c.run_length-n.result * (c.args.key + value_width) ≤ length c.args.to.now
room c =
    let w = c.args.key + value_width in
    omega (arith, start_le w c.run_length-n.ensures.1.0, add-mul c.loop-i.i c.run_length-n.result w, c.requires.2)

-- the source that was read is the i-th row's
sought : (c : After-run_length-n) → c.source_at-source.result ≡ field_at c.args.key source_width (row_at (c.args.key + source_width) c.loop-i.i c.args.plan.now)
sought c =
    c.source_at-source.ensures ∙ sym (field_there c.args.key c.args.plan.now c.loop-i.i)

-- the run that was found is that of the i-th row's source
run : (c : After-run_length-n) → RowRun c.args.key c.args.plan.now c.loop-i.i (field_at c.args.key source_width (row_at (c.args.key + source_width) c.loop-i.i c.args.plan.now)) c.run_length-n.result
run c =
    subst (λ source. RowRun c.args.key c.args.plan.now c.loop-i.i source c.run_length-n.result) (sought c) c.run_length-n.ensures.1.1

-- where the source of the i-th row stands
source-place : (c : After-row_at-row) → c.loop-i.i * (c.args.key + source_width) + c.args.key ≤ projection_entries * entry_width
source-place c =
    let rows : c.loop-i.i * (c.args.key + source_width) ≤ projection_entries * (entry_value_at + source_width) = mul-le-mul {n₂ = projection_entries} {m₂ = entry_value_at + source_width} (omega (arith, c.loop-i-test.true, c.requires.1)) (omega (arith, c.requires.0)) in
    omega (arith, c.requires.0)

pub loop-i-init : goal.loop-i-init
loop-i-init c = (search rules, (refl, no_rows_written _ _ _))

pub overflow_mul-i : goal.overflow_mul-i
overflow_mul-i c = omega (arith, source-place c)

pub overflow_add-i : goal.overflow_add-i
overflow_add-i c = omega (arith, source-place c)

pub source_at-source-requires : goal.source_at-source-requires
source_at-source-requires c = source-place c

pub overflow_mul-start : goal.overflow_mul-start
overflow_mul-start c = omega (arith, room c)

pub overflow_mul-end : goal.overflow_mul-end
overflow_mul-end c = omega (arith, room c)

pub overflow_add-end : goal.overflow_add-end
overflow_add-end c = omega (arith, room c)

pub slice_bounds-write_planned-end : goal.slice_bounds-write_planned-end
slice_bounds-write_planned-end c = omega (arith, room c)

pub write_planned-requires : goal.write_planned-requires
write_planned-requires c = (search rules, sought (goal.at.write_planned-requires c).After-run_length-n ∙ ap (field_at c.args.key source_width) (sym c.row_at-row.ensures))

pub loop-i-preserved : goal.loop-i-preserved
loop-i-preserved c =
    let ed = edition_of c.args.edition in
    let w = c.args.key + value_width in
    let next = run_written w c.args.to.now (planned ed c.args.key c.args.plan.now c.args.from.now c.args.set.now) c.loop-i.i c.loop-i.invariant.1.1 c.run_length-n.result c.run_length-n.ensures.0
    (planned_keeps ed c.args.key c.args.plan.now c.args.from.now c.args.set.now c.loop-i.i) (planned_splits ed c.args.key c.args.plan.now c.args.from.now c.args.set.now c.loop-i.i c.run_length-n.result (run (goal.at.loop-i-preserved c).After-run_length-n)) (room (goal.at.loop-i-preserved c).After-run_length-n)
    (planned_by ed c.args.key c.args.plan.now c.args.from.now c.args.set.now c.loop-i.i _ c.row_at-row.ensures c.write_planned.ensures) in
    (c.run_length-n.ensures.1.0, (same_size w c.args.to.now _ (c.loop-i.i + c.run_length-n.result) next (omega (arith, room (goal.at.loop-i-preserved c).After-run_length-n, add-mul c.loop-i.i c.run_length-n.result w)), next))

pub overflow_mul-used : goal.overflow_mul-used
overflow_mul-used c = omega (arith, c.requires.2)

pub slice_bounds-clear-count : goal.slice_bounds-clear-count
slice_bounds-clear-count c = omega (arith, c.requires.2, c.loop-i.invariant.1.0)

pub slice_bounds-clear-start : goal.slice_bounds-clear-start
slice_bounds-clear-start c = omega (arith, c.requires.2, c.loop-i.invariant.1.0)

pub shape_of-to : goal.shape_of-to
shape_of-to c = search (rules, c.loop-i.invariant.1.0)

pub returns : goal.returns
unfolding new_row
returns c =
    let ed = edition_of c.args.edition in
    let last : c.loop-i.i ≡ c.args.count = omega arith in
    rest_cleared (c.args.key + value_width) c.args.to.now _ c.args.count (subst (λ n. RowsWritten (c.args.key + value_width) c.args.to.now (planned ed c.args.key c.args.plan.now c.args.from.now c.args.set.now) n c.loop-i.to) last c.loop-i.invariant.1.1)
    c.requires.2 c.clear.ensures
