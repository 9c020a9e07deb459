use Prim.Native.Nat.{◌-◌, ◌≤◌}
use mathlib.Core.Path.{◌≡◌}
use lib.ListN.{length, drop}
use Rattle.spec_explain.specs.Locate.{repeated, locate_patch}
use Rattle.projection_patch.specs.Meaning.{edition_of}
use Rattle.patch_locate.specs.Answers.{located_answer}
use Rattle.patch_locate.proofs.set.patches_at.Given as goal

abbrev pub invariant-loop-i : goal.invariant-loop-i
invariant-loop-i l =
    (l.next ≤ length l.set) × ((l.i ≤ l.count) × (located_answer (length l.set) (repeated (locate_patch (edition_of l.edition)) l.i (l.count - l.i) (drop l.next l.set)) ≡ located_answer (length l.set) (repeated (locate_patch (edition_of l.edition)) 0 l.count (drop l.at l.set))))
