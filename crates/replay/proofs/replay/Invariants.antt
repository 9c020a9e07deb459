-- `replay` stays in its slices: what is kept stands at the front of the input.
use Rattle.std.proofs.Common.{◌≡◌, ◌≤◌, length}
use Rattle.replay.proofs.replay.Given as goal

abbrev pub invariant-loop : goal.invariant-loop
invariant-loop g l = (l.kept ≤ length l.input) × (length l.input ≡ length l.initial.input) × (length l.out ≡ length l.initial.out)
