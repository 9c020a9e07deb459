-- `script_replay::run_line` meets its contract: each kind of line in its turn.
use mathlib.Core.Path.{sym}
use Rattle.spec_replay.specs.Replay.{replay_line}
use Rattle.script_replay.specs.LineLaws.{line_step, long_other, parsed_as}
use borrow.Author.Rules.{rules}
use Rattle.script_replay.proofs.run_line.Goals as goal

pub returns-then-line-gt-LINE_BYTES : goal.returns-then-line-gt-LINE_BYTES
unfolding replay_line
returns-then-line-gt-LINE_BYTES c =
    λ m h. line_step c.args.number m _ _ (sym (long_other c.args.line.now c.if-line-gt-LINE_BYTES.true)) c.other.ensures

pub returns-in-Nothing : goal.returns-in-Nothing
returns-in-Nothing c =
    λ m h. line_step c.args.number m _ _ (parsed_as c.args.line.now c.parse_line.result _ c.parse_line.ensures c.in-Nothing.is) (c.nothing.ensures m h c.args.number c.args.out.now)

pub returns-in-Setup : goal.returns-in-Setup
returns-in-Setup c =
    λ m h. line_step c.args.number m _ _ (parsed_as c.args.line.now c.parse_line.result _ c.parse_line.ensures c.in-Setup.is) (c.set_up.ensures m h c.args.number c.args.out.now)

pub returns-in-Call : goal.returns-in-Call
returns-in-Call c =
    λ m h. line_step c.args.number m _ _ (parsed_as c.args.line.now c.parse_line.result _ c.parse_line.ensures c.in-Call.is) (c.call.ensures m h c.args.number)

pub returns-in-WithSet : goal.returns-in-WithSet
returns-in-WithSet c =
    λ m h. line_step c.args.number m _ _ (parsed_as c.args.line.now c.parse_line.result _ c.parse_line.ensures c.in-WithSet.is) (c.run_with_set.ensures m h c.if-line-gt-LINE_BYTES.false)

pub returns-in-Group : goal.returns-in-Group
returns-in-Group c =
    λ m h. line_step c.args.number m _ _ (parsed_as c.args.line.now c.parse_line.result _ c.parse_line.ensures c.in-Group.is) (c.run_group.ensures m h c.if-line-gt-LINE_BYTES.false)

pub returns-in-Page : goal.returns-in-Page
returns-in-Page c =
    λ m h. line_step c.args.number m _ _ (parsed_as c.args.line.now c.parse_line.result _ c.parse_line.ensures c.in-Page.is) (c.run_page.ensures m h)

pub returns-in-Other : goal.returns-in-Other
unfolding replay_line
returns-in-Other c =
    λ m h. line_step c.args.number m _ _ (parsed_as c.args.line.now c.parse_line.result _ c.parse_line.ensures c.in-Other.is) c.other-in-Other.ensures
