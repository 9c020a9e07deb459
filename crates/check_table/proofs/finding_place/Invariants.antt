use mathlib.Core.Path.{◌≡◌, sym}
use borrow.Author.Rules.{rules}
use Rattle.bytes_records.specs.SearchLaws.{later_none}
use Prim.Native.Nat.{◌-◌, ◌*◌, ◌≤◌}
use native.Mathlib.Omega.{arith}
use lib.ListN.{length, length-drop}
use Rattle.bytes_records.specs.Search.{PlaceWithin}
use Rattle.check_table.specs.FindingTable.{finding_of}
use Rattle.check_table.specs.FindingTableLaws.{FindingPlaced, placed_below, placed_same, placed_above, placed_last}
use Rattle.check_table.proofs.finding_place.Given as goal

abbrev pub invariant-loop-at : goal.invariant-loop-at
invariant-loop-at l = (l.at ≤ length l.records) × (l.at ≡ 3 * l.place) × FindingPlaced (finding_of l.finding) l.records l.at l.place

abbrev pub decreases-loop-at : goal.decreases-loop-at
decreases-loop-at l = length l.records - l.at
