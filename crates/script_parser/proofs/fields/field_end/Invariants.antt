use Prim.Native.Nat.{◌+◌}
use mathlib.Core.Path.{◌≡◌}
use lib.ListN.{length, drop}
use Rattle.script_parser.specs.Fields.{first_field}
use Rattle.script_parser.proofs.fields.field_end.Given as goal

abbrev pub invariant-loop-i : goal.invariant-loop-i
invariant-loop-i l = l.i + length (first_field l.separator (drop l.i l.line)) ≡ l.from + length (first_field l.separator (drop l.from l.line))
