-- `check_table::finding_place` meets its contract. The invariant: the records before position `at` are below the finding, and there are `place` of them.
use mathlib.Core.Path.{◌≡◌, sym}
use borrow.Author.Rules.{rules}
use Rattle.bytes_records.specs.SearchLaws.{later_none}
use Prim.Native.Nat.{◌-◌, ◌*◌, ◌≤◌}
use native.Mathlib.Omega.{arith}
use lib.ListN.{length, length-drop}
use Rattle.bytes_records.specs.Search.{PlaceWithin}
use Rattle.check_table.specs.FindingTable.{finding_of}
use Rattle.check_table.specs.FindingTableLaws.{FindingPlaced, placed_below, placed_same, placed_above, placed_last}
use Rattle.check_table.proofs.finding_place.Goals as goal

pub loop-at-init : goal.loop-at-init
loop-at-init c = (search rules, search rules, later_none _)

pub returns-in-Equal : goal.returns-in-Equal
unfolding PlaceWithin
returns-in-Equal c =
    record { place = sym (placed_same _ _ c.loop-at.at c.loop-at.place (search rules) _ (sym c.compare.ensures) c.loop-at.invariant.2 c.in-Equal.is); within = omega (arith, c.loop-at.invariant.0, c.loop-at.invariant.1, c.loop-at-test.true) }

pub returns-in-Greater : goal.returns-in-Greater
unfolding PlaceWithin
returns-in-Greater c =
    record { place = sym (placed_above _ _ c.loop-at.at c.loop-at.place (search rules) _ (sym c.compare.ensures) c.loop-at.invariant.2 c.in-Greater.is); within = omega (arith, c.loop-at.invariant.0, c.loop-at.invariant.1, c.loop-at-test.true) }

pub loop-at-preserved : goal.loop-at-preserved
loop-at-preserved c =
    (search rules, omega (arith, c.loop-at.invariant.1), placed_below _ _ c.loop-at.at c.loop-at.place (search rules) _ (sym c.compare.ensures) c.loop-at.invariant.2 c.in-Less.is)

pub returns : goal.returns
unfolding PlaceWithin
returns c =
    record { place = sym (placed_last _ _ c.loop-at.at c.loop-at.place c.loop-at.invariant.2 (simp length-drop (search rules))); within = omega (arith, c.loop-at.invariant.0, c.loop-at.invariant.1) }
