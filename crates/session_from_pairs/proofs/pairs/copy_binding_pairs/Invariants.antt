use Rattle.std.proofs.Common.{◌≡◌, ◌-◌, ◌≤◌}
use Rattle.session_from_pairs.proofs.PairsLaws.{up_to_pair}
use Rattle.session_from_pairs.proofs.pairs.copy_binding_pairs.Given as goal

-- what the loop has made after i turns
abbrev pub invariant-loop-i : goal.invariant-loop-i
invariant-loop-i l = (l.i ≤ l.count) × (l.anchors ≡ up_to_pair l.pairs l.i)

abbrev pub decreases-loop-i : goal.decreases-loop-i
decreases-loop-i l = l.count - l.i
