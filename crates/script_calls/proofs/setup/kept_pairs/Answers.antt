-- `script_calls::setup::kept_pairs` meets its contract: a store past the end is none.
use mathlib.Core.Path.{◌≡◌, sym}
use native.Mathlib.Omega.{arith}
use lib.ListN.{length}
use lib.Seq.{set_out}
use borrow.Author.Rules.{rules}
use Rattle.spec_lists.proofs.ListLaws.{unmapped}
use Rattle.spec_replay.specs.Replay.{kept_anchors}
use Rattle.script_calls.proofs.setup.kept_pairs.Goals as goal

pub returns-else-count-lt-KEPT : goal.returns-else-count-lt-KEPT
returns-else-count-lt-KEPT c =
    let long : length c.args.pairs ≡ kept_anchors = search (rules, unmapped) in
    sym (set_out c.args.pairs c.args.count _ (omega (arith, long)))
