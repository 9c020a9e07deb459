use Prim.Native.Nat.{ℕ, ◌+◌, ◌-◌, ◌*◌, ◌≤◌}
use mathlib.Core.Path.{◌≡◌}
use mathlib.Core.Bool.{Bool}
use native.Mathlib.Omega.{arith}
use lib.ListN.{length, drop, length-drop}
use Rattle.spec_checks.specs.Target.{MutationTarget}
use Rattle.check_quick.specs.Anchors.{anchored, absent_among}
use Rattle.check_quick.specs.AnchorsLaws.{one_at_most, absent_turn, absent_end, all_absent}
use borrow.Author.Rules.{rules}
use Rattle.check_quick.proofs.anchors.absent_among.Given as goal

abbrev pub invariant-loop-i : goal.invariant-loop-i
invariant-loop-i l =
    (l.absent ≤ l.i) × (l.absent + absent_among (anchored l.nodes l.bindings l.collections) (drop (3 * l.i) l.targets) ≡ absent_among (anchored l.nodes l.bindings l.collections) l.targets)
