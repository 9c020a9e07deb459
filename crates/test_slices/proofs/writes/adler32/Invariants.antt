-- `adler32` runs: both sums stay below the prime.
use Rattle.std.proofs.Common.{◌<◌}
use Rattle.test_slices.proofs.writes.adler32.Given as goal

abbrev pub invariant-loop-byte : goal.invariant-loop-byte
invariant-loop-byte l = (l.a < 65521) × (l.b < 65521)
