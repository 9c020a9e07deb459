use Prim.Native.Nat.{◌-◌, ◌≤◌}
use mathlib.Core.Path.{◌≡◌}
use mathlib.Core.List.{◌∷◌}
use lib.ListN.{replicate, drop}
use Rattle.spec_text.specs.Syntax.{tail}
use Rattle.bytes_utf8.specs.Classes.{tails}
use Rattle.bytes_utf8.specs.Characters.{matches}
use Rattle.bytes_utf8.proofs.sequence_length.Given as goal

abbrev pub invariant-loop-i : goal.invariant-loop-i
invariant-loop-i l =
    (2 ≤ l.i) × (l.i ≤ l.length) × (matches (tails l.low l.high ∷ replicate (l.length - 2) tail) (drop 1 l.text) ≡ matches (replicate (l.length - l.i) tail) (drop l.i l.text))
