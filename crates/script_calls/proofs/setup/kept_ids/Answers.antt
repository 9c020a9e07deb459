-- `script_calls::setup::kept_ids` meets its contract: a store past the end is none.
use mathlib.Core.Path.{◌≡◌, sym}
use native.Mathlib.Omega.{arith}
use lib.ListN.{length}
use lib.Seq.{set_out}
use borrow.Author.Rules.{rules}
use Rattle.spec_replay.specs.Replay.{kept_anchors}
use Rattle.script_calls.proofs.setup.kept_ids.Goals as goal

pub returns-else-count-lt-KEPT : goal.returns-else-count-lt-KEPT
returns-else-count-lt-KEPT c =
    let long : length c.args.ids ≡ kept_anchors = search rules in
    sym (set_out c.args.ids c.args.count _ (omega (arith, long)))
