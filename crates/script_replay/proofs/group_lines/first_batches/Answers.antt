-- `script_replay::group_lines::first_batches` meets its contract. The invariant: the first i batches are those of the first i members.
use Prim.Native.Nat.{◌-◌}
use mathlib.Core.Path.{refl}
use native.Mathlib.Omega.{arith}
use borrow.Author.Rules.{rules}
use Rattle.spec_group.specs.Group.{group_batches}
use Rattle.script_replay.specs.GroupLaws.{Copied, copied_start, copied_turn, copied_end}
use Rattle.script_replay.proofs.group_lines.first_batches.Goals as goal

pub loop-i-init : goal.loop-i-init
loop-i-init c = copied_start _ _ refl

pub loop-i-preserved : goal.loop-i-preserved
loop-i-preserved c =
    copied_turn _ _ _ c.loop-i.invariant (omega arith) (search rules) c.group_batch.result c.group_batch.ensures

pub returns : goal.returns
returns c = copied_end _ _ _ c.loop-i.invariant (omega arith)
