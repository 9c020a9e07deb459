-- `script_replay::setup_lines::set_up` meets its contract: another set-up, and the session as it was.
use Rattle.script_replay.specs.LineLaws.{set_up_step}
use borrow.Author.Rules.{rules}
use Rattle.script_replay.proofs.setup_lines.set_up.Goals as goal

pub returns : goal.returns
returns c =
    λ m h n out. set_up_step c.args.state m h c.next_setup-setup.result c.args.line (c.next_setup-setup.ensures m.setup h.setup_is) n out
