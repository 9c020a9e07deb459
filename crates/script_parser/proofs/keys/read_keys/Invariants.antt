use Prim.Native.Nat.{◌-◌}
use mathlib.Core.Path.{refl}
use borrow.Author.Rules.{rules}
use Rattle.spec_replay.specs.Script.{line_keys}
use Rattle.script_parser.specs.KeysLaws.{KeyedLine, keyed_start, keyed_end, keyed_many, keyed_off, keyed_turn}
use Rattle.script_parser.proofs.keys.read_keys.Given as goal

abbrev pub invariant-loop-at : goal.invariant-loop-at
invariant-loop-at l = KeyedLine l.line l.end l.keys l.count l.at

abbrev pub decreases-loop-at : goal.decreases-loop-at
decreases-loop-at l = line_keys - l.count
