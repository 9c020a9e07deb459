use Prim.Native.Nat.{◌+◌, ◌-◌, ◌≤◌}
use mathlib.Core.Path.{◌≡◌, sym, ◌∙◌}
use native.Mathlib.Omega.{arith}
use lib.ListN.{length, drop}
use borrow.Author.Rules.{rules}
use Rattle.spec_replay.specs.Lines.{space, split}
use Rattle.script_parser.specs.Words.{index_of}
use Rattle.script_parser.specs.FieldsLaws.{field_within}
use Rattle.script_parser.proofs.Searching.{word_here, word_nowhere, word_later}
use Rattle.script_parser.proofs.words.word_index.Given as goal

abbrev pub invariant-loop-at : goal.invariant-loop-at
invariant-loop-at l = (l.at ≤ length l.words) × ((l.i ≤ l.at) × (l.i + index_of l.field (split space (drop l.at l.words)) ≡ index_of l.field (split space l.words)))

abbrev pub decreases-loop-at : goal.decreases-loop-at
decreases-loop-at l = length l.words - l.at
