-- `ReplaySetup::with_node` meets its contract: the other anchors stay as they were.
use Rattle.spec_replay.specs.Replay.{with_node}
use Rattle.script_calls.specs.SetsUpLaws.{kept_more}
use borrow.Author.Rules.{rules}
use Rattle.script_calls.proofs.setup.ReplaySetup.with_node.Goals as goal

pub returns : goal.returns
unfolding with_node
returns c =
    λ m s. record {
      id_is = s.id_is;
      limits_are = s.limits_are;
      nodes_kept = rw (c.kept_ids-nodes.ensures, c.kept_count-count.ensures) (kept_more 0 c.args.self.nodes c.args.self.node_count m.catalogue.nodes s.nodes_kept c.args.node);
      pairs_kept = s.pairs_kept;
      collections_kept = s.collections_kept;
    }
