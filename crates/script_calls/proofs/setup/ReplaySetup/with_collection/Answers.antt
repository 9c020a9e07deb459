-- `ReplaySetup::with_collection` meets its contract: the other anchors stay as they were.
use Rattle.spec_replay.specs.Replay.{with_collection}
use Rattle.script_calls.specs.SetsUpLaws.{kept_more}
use borrow.Author.Rules.{rules}
use Rattle.script_calls.proofs.setup.ReplaySetup.with_collection.Goals as goal

pub returns : goal.returns
unfolding with_collection
returns c =
    λ m s. record {
      id_is = s.id_is;
      limits_are = s.limits_are;
      nodes_kept = s.nodes_kept;
      pairs_kept = s.pairs_kept;
      collections_kept = rw (c.kept_ids-collections.ensures, c.kept_count-count.ensures) (kept_more 0 c.args.self.collections c.args.self.collection_count m.catalogue.collections s.collections_kept c.args.collection);
    }
