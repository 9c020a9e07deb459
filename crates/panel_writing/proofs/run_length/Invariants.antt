use Prim.Native.Nat.{◌+◌, ◌-◌, ◌*◌, ◌≤◌, min}
use native.Mathlib.Nat.{mul-le-mul, min-le_left, min-le_right, le-min}
use native.Mathlib.Omega.{arith}
use borrow.Author.Rules.{rules}
use Rattle.spec_patch.specs.Sizes.{projection_entries}
use Rattle.panel_rows.specs.Rows.{entry_value_at, entry_width}
use Rattle.panel_plan.specs.PlanRows.{source_width}
use Rattle.panel_writing.specs.Writing.{RowRun}
use Rattle.panel_writing.proofs.Bytes.{run_of_one, run_and_next}
use Rattle.panel_writing.proofs.run_length.Given as goal

abbrev pub invariant-loop-n : goal.invariant-loop-n
invariant-loop-n l = RowRun l.key l.plan l.i l.source l.n
