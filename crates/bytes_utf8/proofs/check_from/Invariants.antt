use Prim.Native.Nat.{◌-◌}
use lib.ListN.{length}
use Rattle.bytes_utf8.specs.Characters.{Reached}
use Rattle.bytes_utf8.proofs.check_from.Given as goal

abbrev pub invariant-loop-i : goal.invariant-loop-i
invariant-loop-i l = Reached l.text l.characters l.i

abbrev pub decreases-loop-i : goal.decreases-loop-i
decreases-loop-i l = length l.text - l.i
