-- `script_calls::setup::kept_count` meets its contract.
use borrow.Author.Rules.{rules}
use borrow.Author.Tests.{lt-ltb, le-ltb}
use Rattle.spec_replay.specs.Replay.{kept_anchors}
use Rattle.script_calls.specs.SetsUp.{kept_count}
use Rattle.script_calls.proofs.setup.kept_count.Goals as goal

pub returns-then-count-lt-KEPT : goal.returns-then-count-lt-KEPT
unfolding kept_count
returns-then-count-lt-KEPT c = rw (lt-ltb c.args.count kept_anchors c.if-count-lt-KEPT.true)

pub returns : goal.returns
unfolding kept_count
returns c = rw (le-ltb c.args.count kept_anchors (search rules))
