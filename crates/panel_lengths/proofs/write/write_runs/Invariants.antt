use Prim.Native.Nat.{ℕ, ◌+◌, ◌-◌}
use mathlib.Core.Path.{◌≡◌, refl, sym, ap, ◌∙◌}
use native.Mathlib.Omega.{arith}
use borrow.Author.Rules.{rules}
use lib.ListN.{length}
use Rattle.spec_lengths.specs.Lengths.{length_record}
use Rattle.panel_rows.specs.Rows.{length_row}
use Rattle.panel_lengths.specs.Runs.{leading, collections_from}
use Rattle.panel_lengths.proofs.Writing.{RunsWritten, none_written, one_written, all_written}
use Rattle.panel_lengths.proofs.write.write_runs.Given as goal

abbrev pub invariant-loop-i : goal.invariant-loop-i
invariant-loop-i l = (length l.to ≡ length l.initial.to) × RunsWritten l.plan l.count l.rows l.i l.to

abbrev pub decreases-loop-i : goal.decreases-loop-i
decreases-loop-i l = l.count - l.i
