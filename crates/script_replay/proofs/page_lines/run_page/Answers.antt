-- `script_replay::page_lines::run_page` meets its contract: the fields of a page, or any other line.
use mathlib.Core.Path.{sym, ap, ◌∙◌}
use borrow.Author.Rules.{rules}
use Rattle.spec_replay.specs.Replay.{replay_line}
use Rattle.script_parser.specs.Keys.{page_then}
use Rattle.script_replay.specs.LineLaws.{line_step}
use Rattle.script_replay.proofs.page_lines.run_page.Goals as goal

pub returns-in-Some : goal.returns-in-Some
unfolding replay_line
returns-in-Some c =
    λ m h. line_step c.args.number m _ _ (sym (c.read_page.ensures.told ∙ ap page_then c.in-Some.is)) (c.look_up.ensures m h)

pub returns-in-None : goal.returns-in-None
unfolding replay_line
returns-in-None c =
    λ m h. line_step c.args.number m _ _ (sym (c.read_page.ensures.told ∙ ap page_then c.in-None.is)) c.other.ensures
