-- `run_cases` stays in its slices and ends: each name starts behind the one before it.
use Rattle.std.proofs.Common.{◌≡◌, ◌-◌, ◌≤◌, length}
use Rattle.test_conformance.proofs.run_cases.Given as goal

abbrev pub invariant-loop-start : goal.invariant-loop-start
invariant-loop-start g l =
    (l.start ≤ length l.index) × (length l.script ≡ length l.initial.script) × (length l.answers ≡ length l.initial.answers) × (length l.out ≡ length l.initial.out)

abbrev pub decreases-loop-start : goal.decreases-loop-start
decreases-loop-start g l = length l.index - l.start
