-- `lent_anchors` meets its contract: the anchors that the counts name.
use Prim.Native.Nat.{◌*◌}
use mathlib.Core.Path.{◌≡◌}
use native.Mathlib.Omega.{arith}
use lib.ListN.{length}
use Rattle.spec_lists.proofs.ListLaws.{unmapped}
use Rattle.spec_patch.specs.Sizes.{anchors}
use Rattle.session_steps.specs.ChecksLaws.{lent_anchors}
use borrow.Author.Rules.{rules}
use Rattle.session_steps.proofs.checks.lent_anchors.Goals as goal

pub returns : goal.returns
returns c =
    let nodes : length c.args.catalog.node_anchors ≡ anchors = search rules in
    let pairs : length c.args.catalog.binding_anchors ≡ anchors = search (rules, unmapped) in
    let numbers : length c.pair_numbers-bindings.result ≡ 2 * anchors = search rules in
    let collections : length c.args.catalog.collection_anchors ≡ anchors = search rules in record { are = lent_anchors c.args.catalog nodes pairs collections _ _ _ c.anchors_held.ensures c.anchors_held-2.ensures c.anchors_held-3.ensures _ c.pair_numbers-bindings.ensures; within = (omega (arith, nodes, c.anchors_held.ensures), (omega (arith, numbers, c.anchors_held-2.ensures), omega (arith, collections, c.anchors_held-3.ensures))) }
