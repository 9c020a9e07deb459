use Prim.Native.Nat.{◌+◌, ◌-◌, ◌*◌, ◌≤◌}
use mathlib.Core.Path.{◌≡◌, refl, sym, ap, ◌∙◌, subst}
use native.Mathlib.Nat.{add-mul, mul-le-mul}
use native.Mathlib.Omega.{arith}
use borrow.Author.Rules.{rules}
use lib.ListN.{length}
use Rattle.projection_patch.specs.Meaning.{edition_of}
use Rattle.bytes_records.proofs.Offsets.{start_le}
use Rattle.spec_patch.specs.Sizes.{projection_entries}
use Rattle.panel_rows.specs.Rows.{value_width, entry_value_at, entry_width, field_at}
use Rattle.panel_plan.specs.PlanRows.{source_width}
use Rattle.panel_writing.specs.Writing.{row_at, RowRun, new_row}
use Rattle.panel_writing.proofs.Bytes.{field_there, planned, planned_keeps, planned_splits, planned_by}
use Rattle.panel_writing.proofs.Turns.{RowsWritten, no_rows_written, same_size, run_written, rest_cleared}
use Rattle.panel_writing.proofs.write_rows.Given as goal

abbrev pub invariant-loop-i : goal.invariant-loop-i
invariant-loop-i l = (l.i ≤ l.count) × ((length l.to ≡ length l.initial.to) × RowsWritten (l.key + value_width) l.initial.to (planned (edition_of l.edition) l.key l.plan l.from l.set) l.i l.to)

abbrev pub decreases-loop-i : goal.decreases-loop-i
decreases-loop-i l = l.count - l.i
