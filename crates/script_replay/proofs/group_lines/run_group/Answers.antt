-- `script_replay::group_lines::run_group` meets its contract: the fields of a group, or any other line.
use Prim.Native.Nat.{◌≤◌}
use mathlib.Core.Path.{sym, ◌∙◌}
use borrow.Author.Rules.{rules}
use Rattle.spec_replay.specs.Script.{line_members}
use Rattle.spec_replay.specs.Replay.{replay_line}
use Rattle.script_replay.specs.LineLaws.{line_step}
use Rattle.script_replay.specs.GroupLaws.{group_read, group_not_read}
use Rattle.script_replay.proofs.group_lines.run_group.Goals as goal

pub returns-in-Some : goal.returns-in-Some
returns-in-Some c =
    let few : c.in-Some.fields.count ≤ line_members = search rules in
    λ m h short. line_step c.args.number m _ _ (sym (c.read_group.ensures.told ∙ group_read c.args.line.now c.read_group.result _ c.in-Some.is)) (c.send_group.ensures m h short few)

pub returns-in-None : goal.returns-in-None
unfolding replay_line
returns-in-None c =
    λ m h short. line_step c.args.number m _ _ (sym (c.read_group.ensures.told ∙ group_not_read c.args.line.now c.read_group.result c.in-None.is)) c.other.ensures
