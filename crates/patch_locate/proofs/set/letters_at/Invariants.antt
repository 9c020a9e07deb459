use Prim.Native.Nat.{◌≤◌}
use mathlib.Core.Path.{◌≡◌}
use lib.ListN.{length, drop}
use Rattle.spec_explain.specs.Locate.{locate_letters}
use Rattle.patch_locate.specs.Answers.{located_answer}
use Rattle.patch_locate.proofs.set.letters_at.Given as goal

abbrev pub invariant-loop-i : goal.invariant-loop-i
invariant-loop-i l =
    (l.i ≤ length l.set) × (located_answer (length l.set) (locate_letters (drop l.i l.letters) (drop l.i l.set)) ≡ located_answer (length l.set) (locate_letters l.letters l.set))
