use mathlib.Core.Path.{◌≡◌}
use lib.Seq.{paste}
use Rattle.bytes_hex.specs.Decoding.{pair_bytes}
use Rattle.bytes_hex.proofs.store_pairs.Given as goal

abbrev pub invariant-loop-i : goal.invariant-loop-i
invariant-loop-i l = l.out ≡ paste l.initial.out 0 (pair_bytes l.text) l.i
