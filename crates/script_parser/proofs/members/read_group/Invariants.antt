use Prim.Native.Nat.{◌-◌, ◌≤◌}
use mathlib.Core.Path.{◌≡◌, sym, ◌∙◌}
use native.Mathlib.Omega.{arith}
use lib.ListN.{length}
use borrow.Author.Rules.{rules}
use Rattle.spec_replay.specs.Lines.{space}
use Rattle.spec_replay.specs.Script.{other, line_members, group_arguments}
use Rattle.script_parser.specs.Fields.{fields_after}
use Rattle.script_parser.specs.Members.{group_then}
use Rattle.script_parser.specs.MembersLaws.{Gathered, gathered_start, gathered_none, gathered_last, gathered_many, gathered_off, gathered_turn, no_group_then}
use Rattle.script_parser.proofs.members.read_group.Given as goal

abbrev pub invariant-loop-at : goal.invariant-loop-at
invariant-loop-at l = Gathered l.line l.end l.members l.count l.at

abbrev pub decreases-loop-at : goal.decreases-loop-at
decreases-loop-at l = length l.line - l.at
