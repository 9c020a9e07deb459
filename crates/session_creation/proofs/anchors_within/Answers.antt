-- `anchors_within` meets its contract.
use borrow.Author.Rules.{rules}
use Rattle.session_creation.specs.Creation.{anchors_within}
use Rattle.session_creation.proofs.anchors_within.Goals as goal

pub returns-then-pairs-le-ANCHORS : goal.returns-then-pairs-le-ANCHORS
unfolding anchors_within
returns-then-pairs-le-ANCHORS c = search rules

pub returns-else-pairs-le-ANCHORS : goal.returns-else-pairs-le-ANCHORS
unfolding anchors_within
returns-else-pairs-le-ANCHORS c = search rules
