use Prim.Native.Nat.{◌-◌, ◌≤◌}
use mathlib.Core.Path.{◌≡◌}
use lib.ListN.{length, drop}
use Rattle.spec_explain.specs.Locate.{repeated}
use Rattle.projection_patch.specs.Meaning.{edition_of}
use Rattle.patch_locate.specs.Answers.{located_answer}
use Rattle.patch_locate.specs.Fields.{operation_in}
use Rattle.patch_locate.proofs.set.operations_at.Given as goal

abbrev pub invariant-loop-j : goal.invariant-loop-j
invariant-loop-j l =
    (l.next ≤ length l.set) × ((l.j ≤ l.count) × (located_answer (length l.set) (repeated (operation_in (edition_of l.edition) l.patch) l.j (l.count - l.j) (drop l.next l.set)) ≡ located_answer (length l.set) (repeated (operation_in (edition_of l.edition) l.patch) 0 l.count (drop l.at l.set))))
