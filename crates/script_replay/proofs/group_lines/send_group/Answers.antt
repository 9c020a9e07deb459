-- `script_replay::group_lines::send_group` meets its contract: the batches of the line, and the bytes that the hex spells, or any other line.
use mathlib.Core.Path.{◌≡◌, sym}
use native.Mathlib.Omega.{arith}
use lib.ListN.{length, replicate}
use borrow.Author.Rules.{rules}
use Rattle.spec_replay.specs.Script.{line_members, group}
use Rattle.spec_replay.specs.Replay.{replay_line}
use Rattle.script_parser.specs.Meaning.{first_members}
use Rattle.script_replay.specs.LineLaws.{line_step, set_is, set_within, no_set}
use Rattle.script_replay.specs.GroupLaws.{names_members}
use Rattle.script_replay.proofs.group_lines.send_group.Goals as goal
use Rattle.script_replay.proofs.group_lines.send_group.Goals.{Start}

places : (c : Start) → length c.args.members ≡ line_members
places c = search rules

pub slice_bounds-apply_group-end : goal.slice_bounds-apply_group-end
slice_bounds-apply_group-end c =
    omega (arith, set_within c.args.line.now c.args.from (group (first_members c.args.count c.args.members)) (replicate 65536 0) (replicate 65536 0) _ c.decode_set.ensures.value c.in-Ok.len c.in-Ok.is)

pub returns-in-Ok : goal.returns-in-Ok
unfolding replay_line
returns-in-Ok c =
    λ m h short few. line_step c.args.number m _ _
    (sym (set_is c.args.line.now c.args.from (group (first_members c.args.count c.args.members)) (replicate 65536 0) _ c.decode_set.result c.decode_set.ensures.value c.decode_set.ensures.out_after c.in-Ok.len c.in-Ok.is))
    (c.apply_group.ensures m h (first_members c.args.count c.args.members) (names_members c.args.members c.first_batches-batches.result c.args.count (places (goal.at.returns-in-Ok c).Start) c.first_batches-batches.ensures few))

pub returns-in-Err : goal.returns-in-Err
unfolding replay_line
returns-in-Err c =
    λ m h short few. line_step c.args.number m _ _ (sym (no_set c.args.line.now c.args.from (group (first_members c.args.count c.args.members)) (replicate 65536 0) c.args.line.now c.decode_set.result c.decode_set.ensures.value (search rules) short _ c.in-Err.is)) c.other.ensures
