-- `adds_up` meets its contract. The invariant: what is left of the bytes is for the batches that are left. The measure is the number of these.
use Prim.Native.Nat.{◌-◌, ◌≤◌}
use mathlib.Core.Path.{◌≡◌, sym}
use native.Mathlib.Omega.{arith}
use borrow.Author.Rules.{rules}
use lib.ListN.{length}
use Rattle.spec_lists.proofs.ListLaws.{unmapped}
use Rattle.spec_group.specs.Group.{group_batches}
use Rattle.session_group.specs.Groups.{named_batch}
use Rattle.session_group.specs.GroupsLaws.{named_cons, named_none, CountedDown, counted_start, counted_next, counted_over, counted_end}
use Rattle.session_group.proofs.adds_up.Goals as goal
use Rattle.session_group.proofs.adds_up.Goals.{Start}

within : (c : Start) → c.args.count ≤ length c.args.batches
within c = let long : length c.args.batches ≡ group_batches = search (rules, unmapped) in omega arith

pub loop-place-init : goal.loop-place-init
loop-place-init c = (omega arith, counted_start (named_batch c.args.count c.args.batches) c.args.bytes)

pub returns-then-left-size : goal.returns-then-left-size
returns-then-left-size c =
    let parted = named_cons c.args.count c.args.batches (within (goal.at.returns-then-left-size c).Start) c.loop-place.place c.loop-place-test.true in
    sym (counted_over c.loop-place.invariant.1 _ parted c.if-left-size.true)

pub loop-place-preserved : goal.loop-place-preserved
loop-place-preserved c =
    let parted = named_cons c.args.count c.args.batches (within (goal.at.loop-place-preserved c).Start) c.loop-place.place c.loop-place-test.true in
    (omega arith, counted_next c.loop-place.invariant.1 _ parted c.if-left-size.false)

pub returns : goal.returns
returns c =
    counted_end c.loop-place.invariant.1 (named_none c.args.count c.args.batches (within (goal.at.returns c).Start) c.loop-place.place c.loop-place-test.false)
