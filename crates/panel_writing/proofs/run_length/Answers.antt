-- `run_length` meets its contract: the sources before the n-th follow each other; the measure is the rows that may still follow.
use Prim.Native.Nat.{◌+◌, ◌-◌, ◌*◌, ◌≤◌, min}
use native.Mathlib.Nat.{mul-le-mul, min-le_left, min-le_right, le-min}
use mathlib.Core.Path.{◌≡◌, subst}
use native.Mathlib.Omega.{arith}
use borrow.Author.Rules.{rules}
use Rattle.spec_patch.specs.Sizes.{projection_entries}
use Rattle.panel_rows.specs.Rows.{entry_value_at, entry_width}
use Rattle.panel_plan.specs.PlanRows.{source_width}
use Rattle.panel_writing.specs.Writing.{RowRun}
use Rattle.panel_writing.proofs.Bytes.{run_of_one, run_and_next}
use Rattle.panel_writing.proofs.run_length.Goals as goal
use Rattle.panel_writing.proofs.run_length.Goals.{After-min-most, In-loop-n}

-- no more rows than the plan has from the i-th on, and no more than the old table has from the source on
few : (c : After-min-most) → (c.args.i + c.min-most.result ≤ c.args.count) × (c.args.source + c.min-most.result ≤ projection_entries)
few c =
    let left = min-le_left (c.args.count - c.args.i) (projection_entries - c.args.source) in
    let right = min-le_right (c.args.count - c.args.i) (projection_entries - c.args.source) in
    (omega (arith, c.min-most.ensures, left, c.requires.1.1), omega (arith, c.min-most.ensures, right, c.if-source-ge-ENTRIES.false))

-- where the source of the n-th row stands
place : (c : In-loop-n) → (c.args.i + c.loop-n.n) * (c.args.key + source_width) + c.args.key ≤ projection_entries * entry_width
place c =
    let rows : (c.args.i + c.loop-n.n) * (c.args.key + source_width) ≤ projection_entries * (entry_value_at + source_width) = mul-le-mul {n₂ = projection_entries} {m₂ = entry_value_at + source_width} (omega (arith, (few (goal.at.In-loop-n c).After-min-most).0, c.loop-n-test.true, c.requires.1.0)) (omega (arith, c.requires.0)) in
    omega (arith, c.requires.0)

pub returns-then-source-ge-ENTRIES : goal.returns-then-source-ge-ENTRIES
returns-then-source-ge-ENTRIES c =
    (omega arith, (omega (arith, c.requires.1.1), run_of_one c.args.key c.args.plan.now c.args.i c.args.source))

pub loop-n-init : goal.loop-n-init
loop-n-init c = run_of_one c.args.key c.args.plan.now c.args.i c.args.source

pub overflow_add-i : goal.overflow_add-i
overflow_add-i c = omega (arith, (few (goal.at.overflow_add-i c).After-min-most).0, c.loop-n-test.true)

pub overflow_mul-i : goal.overflow_mul-i
overflow_mul-i c = omega (arith, place c)

pub overflow_add-i-in-loop-n : goal.overflow_add-i-in-loop-n
overflow_add-i-in-loop-n c = omega (arith, place c)

pub overflow_add-source : goal.overflow_add-source
overflow_add-source c = omega (arith, (few (goal.at.overflow_add-source c).After-min-most).1, c.loop-n-test.true)

pub has_source-requires : goal.has_source-requires
has_source-requires c = place c

pub loop-n-preserved : goal.loop-n-preserved
loop-n-preserved c =
    run_and_next c.args.key c.args.plan.now c.args.i c.args.source c.loop-n.n c.loop-n.invariant (c.has_source.ensures c.if-not-has_source.false) (omega (arith, (few (goal.at.loop-n-preserved c).After-min-most).1, c.loop-n-test.true))

pub returns-then-not-has_source : goal.returns-then-not-has_source
returns-then-not-has_source c =
    (search rules, (omega (arith, (few (goal.at.returns-then-not-has_source c).After-min-most).0), c.loop-n.invariant))

pub returns : goal.returns
returns c =
    let some : 1 ≤ min (c.args.count - c.args.i) (projection_entries - c.args.source) = le-min (omega (arith, c.requires.1.1)) (omega (arith, c.if-source-ge-ENTRIES.false)) in
    let all : c.loop-n.n ≡ c.min-most.result = omega (arith, c.min-most.ensures, some) in
    (omega (arith, c.min-most.ensures, some), (omega (arith, (few (goal.at.returns c).After-min-most).0), subst (RowRun c.args.key c.args.plan.now c.args.i c.args.source) all c.loop-n.invariant))
