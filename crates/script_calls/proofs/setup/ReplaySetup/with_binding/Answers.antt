-- `ReplaySetup::with_binding` meets its contract: the other anchors stay as they were.
use mathlib.Core.Path.{ap, ◌∙◌}
use mathlib.Core.List.{map}
use Rattle.active_projection_target_catalog.specs.Catalog.{pair_of, no_pair}
use Rattle.spec_replay.specs.Replay.{with_binding}
use Rattle.script_calls.specs.SetsUpLaws.{kept_more, map_set}
use borrow.Author.Rules.{rules}
use Rattle.script_calls.proofs.setup.ReplaySetup.with_binding.Goals as goal

pub returns : goal.returns
unfolding with_binding
returns c =
    λ m s. record {
      id_is = s.id_is;
      limits_are = s.limits_are;
      nodes_kept = s.nodes_kept;
      pairs_kept = rw (ap (map pair_of) c.kept_pairs-pairs.ensures ∙ map_set pair_of c.args.self.pairs c.args.self.pair_count c.args.pair, c.kept_count-count.ensures) (kept_more (pair_of no_pair) (map pair_of c.args.self.pairs) c.args.self.pair_count m.catalogue.bindings s.pairs_kept (pair_of c.args.pair));
      collections_kept = s.collections_kept;
    }
