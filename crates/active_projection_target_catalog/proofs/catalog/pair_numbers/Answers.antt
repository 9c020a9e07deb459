use mathlib.Core.Path.{◌≡◌}
use native.Mathlib.Omega.{arith}
use mathlib.Core.List.{flat_map}
use lib.ListN.{length, length-set}
use Rattle.spec_patch.specs.Sizes.{anchors}
use Rattle.active_projection_target_catalog.proofs.CatalogLaws.{one_more_pair, all_pairs}
use borrow.Author.Rules.{rules}
use Rattle.spec_lists.proofs.ListLaws.{unmapped}
use Rattle.active_projection_target_catalog.proofs.catalog.pair_numbers.Goals as goal

pub loop-i-init : goal.loop-i-init
unfolding flat_map
loop-i-init c = search rules

pub loop-i-preserved : goal.loop-i-preserved
loop-i-preserved c =
    let long : length c.args.pairs ≡ anchors = search (rules, unmapped) in
    (simp length-set (search rules), one_more_pair c.args.pairs c.loop-i.numbers c.loop-i.i _ (omega (arith, long)) (search rules) c.loop-i.invariant.1)

pub returns : goal.returns
returns c = all_pairs _ _ c.loop-i.i (search rules) (search (rules, unmapped)) c.loop-i.invariant.1
