-- `script_replay::set_lines::run_with_set` meets its contract: the bytes that the hex spells, or any other line.
use mathlib.Core.Path.{sym}
use native.Mathlib.Omega.{arith}
use lib.ListN.{replicate}
use Rattle.spec_replay.specs.Replay.{replay_line}
use Rattle.script_parser.specs.Meaning.{with_set_of}
use Rattle.script_replay.specs.LineLaws.{line_step, set_is, set_within, no_set}
use borrow.Author.Rules.{rules}
use Rattle.script_replay.proofs.set_lines.run_with_set.Goals as goal

pub slice_bounds-use_set-end : goal.slice_bounds-use_set-end
slice_bounds-use_set-end c =
    omega (arith, set_within c.args.line.now c.args.from (with_set_of c.args.wanted) (replicate 65536 0) (replicate 65536 0) _ c.decode_set.ensures.value c.in-Ok.len c.in-Ok.is)

pub returns-in-Ok : goal.returns-in-Ok
unfolding replay_line
returns-in-Ok c =
    λ m h short. line_step c.args.number m _ _
    (sym (set_is c.args.line.now c.args.from (with_set_of c.args.wanted) (replicate 65536 0) _ c.decode_set.result c.decode_set.ensures.value c.decode_set.ensures.out_after c.in-Ok.len c.in-Ok.is))
    (c.use_set.ensures m h c.args.number)

pub returns-in-Err : goal.returns-in-Err
unfolding replay_line
returns-in-Err c =
    λ m h short. line_step c.args.number m _ _ (sym (no_set c.args.line.now c.args.from (with_set_of c.args.wanted) (replicate 65536 0) c.args.line.now c.decode_set.result c.decode_set.ensures.value (search rules) short _ c.in-Err.is)) c.other.ensures
