-- `rewrite_lines` stays in its slice and ends: each line starts behind the one before it.
use Rattle.std.proofs.Common.{◌-◌, ◌≤◌, length}
use Rattle.test_rewriter.proofs.rewrite_lines.Given as goal

abbrev pub invariant-loop-start : goal.invariant-loop-start
invariant-loop-start g l = l.start ≤ length l.input

abbrev pub decreases-loop-start : goal.decreases-loop-start
decreases-loop-start g l = length l.input - l.start
