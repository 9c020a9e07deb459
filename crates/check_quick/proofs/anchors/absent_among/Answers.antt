-- `absent_among` meets its contract: the targets in turn.
use Prim.Native.Nat.{ℕ, ◌+◌, ◌*◌, ◌≤◌}
use mathlib.Core.Path.{◌≡◌, ap}
use mathlib.Core.Bool.{Bool}
use native.Mathlib.Omega.{arith}
use lib.ListN.{length, drop, length-drop}
use Rattle.spec_checks.specs.Target.{MutationTarget}
use Rattle.check_quick.specs.Anchors.{anchored, absent_among}
use Rattle.check_quick.specs.AnchorsLaws.{one_at_most, absent_turn, absent_end, all_absent}
use Rattle.check_quick.proofs.anchors.absent_among.Goals as goal
use Rattle.check_quick.proofs.anchors.absent_among.Goals.{At-loop-i}

abbrev known : At-loop-i → MutationTarget → Bool
known c = anchored c.args.nodes.now c.args.bindings.now c.args.collections.now

pub returns-then-nodes-bindings-eq0 : goal.returns-then-nodes-bindings-eq0
returns-then-nodes-bindings-eq0 c = all_absent c.args.nodes.now c.args.bindings.now c.args.collections.now (omega arith) c.args.targets.now

pub loop-i-preserved : goal.loop-i-preserved
loop-i-preserved c =
    let test = known (goal.at.loop-i-preserved c).At-loop-i in
    let one : c.one_if_absent-absent.result ≤ 1 = rw c.one_if_absent-absent.ensures (one_at_most test _) in
    let next : 3 * (c.loop-i.i + 1) ≡ 3 * c.loop-i.i + 3 = omega arith in
    (omega (arith, one), omega (arith, c.loop-i.invariant.1, c.one_if_absent-absent.ensures, absent_turn test c.args.targets.now (3 * c.loop-i.i) (omega arith), ap (λ (n : ℕ). absent_among test (drop n c.args.targets.now)) next))

pub returns : goal.returns
returns c =
    omega (arith, c.loop-i.invariant.1, absent_end (known (goal.at.returns c).At-loop-i) (drop (3 * c.loop-i.i) c.args.targets.now) (omega (arith, length-drop (3 * c.loop-i.i) c.args.targets.now)))
