-- `ReplaySetup::new` meets its contract: nothing is kept yet.
use mathlib.Core.Path.{refl}
use Rattle.active_projection_target_catalog.specs.Catalog.{pair_of, no_pair}
use Rattle.script_calls.specs.SetsUpLaws.{none_kept}
use Rattle.spec_replay.specs.Replay.{no_anchors}
use Rattle.script_calls.proofs.setup.ReplaySetup.new.Goals as goal

pub returns : goal.returns
unfolding no_anchors
returns c = record {
  id_is = refl;
  limits_are = refl;
  nodes_kept = none_kept 0;
  pairs_kept = none_kept (pair_of no_pair);
  collections_kept = none_kept 0;
}
