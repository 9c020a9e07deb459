use Prim.Native.Nat.{◌-◌}
use mathlib.Core.Path.{refl}
use native.Mathlib.Omega.{arith}
use borrow.Author.Rules.{rules}
use Rattle.spec_group.specs.Group.{group_batches}
use Rattle.script_replay.specs.GroupLaws.{Copied, copied_start, copied_turn, copied_end}
use Rattle.script_replay.proofs.group_lines.first_batches.Given as goal

abbrev pub invariant-loop-i : goal.invariant-loop-i
invariant-loop-i l = Copied l.members l.batches l.i
