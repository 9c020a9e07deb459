use Prim.Native.Nat.{◌-◌, ◌≤◌}
use mathlib.Core.Path.{◌≡◌, sym}
use native.Mathlib.Omega.{arith}
use borrow.Author.Rules.{rules}
use lib.ListN.{length}
use Rattle.spec_lists.proofs.ListLaws.{unmapped}
use Rattle.spec_group.specs.Group.{group_batches}
use Rattle.session_group.specs.Groups.{named_batch}
use Rattle.session_group.specs.GroupsLaws.{named_cons, named_none, CountedDown, counted_start, counted_next, counted_over, counted_end}
use Rattle.session_group.proofs.adds_up.Given as goal

abbrev pub invariant-loop-place : goal.invariant-loop-place
invariant-loop-place l =
    (l.place ≤ l.count) × CountedDown (named_batch l.count l.batches) l.bytes l.left l.place

abbrev pub decreases-loop-place : goal.decreases-loop-place
decreases-loop-place l = l.count - l.place
