-- `is_answered` stays in its slices and ends: each line starts behind the one before it.
use Rattle.std.proofs.Common.{◌≡◌, ◌-◌, ◌≤◌, length}
use Rattle.test_conformance.proofs.is_answered.Given as goal

abbrev pub invariant-loop-start : goal.invariant-loop-start
invariant-loop-start l = (l.start ≤ length l.script) × (l.done ≤ length l.answers) × (length l.out ≡ length l.initial.out)

abbrev pub decreases-loop-start : goal.decreases-loop-start
decreases-loop-start l = length l.script - l.start
