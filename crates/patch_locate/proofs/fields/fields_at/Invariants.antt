use Prim.Native.Nat.{◌≤◌}
use mathlib.Core.Path.{◌≡◌}
use lib.ListN.{length, drop}
use Rattle.projection_patch.specs.Meaning.{edition_of}
use Rattle.patch_locate.specs.Answers.{located_answer}
use Rattle.patch_locate.specs.Fields.{fields_of}
use Rattle.patch_locate.proofs.fields.fields_at.Given as goal

abbrev pub invariant-loop-letter : goal.invariant-loop-letter
invariant-loop-letter l =
    (l.next ≤ length l.part) × (located_answer (length l.part) (fields_of (edition_of l.edition) (drop l.letter-index l.letters) (drop l.next l.part)) ≡ located_answer (length l.part) (fields_of (edition_of l.edition) l.letters (drop l.at l.part)))
