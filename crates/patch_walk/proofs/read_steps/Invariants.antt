use Prim.Native.Nat.{◌-◌, ◌≤◌}
use mathlib.Core.Path.{◌≡◌}
use lib.ListN.{length}
use Rattle.projection_patch.specs.Meaning.{edition_of}
use Rattle.patch_walk.specs.SetReads.{left_at}
use Rattle.patch_walk.proofs.read_steps.Given as goal

abbrev pub invariant-loop-next : goal.invariant-loop-next
invariant-loop-next l = (l.operations ≤ l.cursor.at) × (left_at (edition_of l.edition) l.set l.cursor l.operations ≡ left_at (edition_of l.edition) l.set l.initial.cursor 0)

abbrev pub decreases-loop-next : goal.decreases-loop-next
decreases-loop-next l = length l.set - l.cursor.at
