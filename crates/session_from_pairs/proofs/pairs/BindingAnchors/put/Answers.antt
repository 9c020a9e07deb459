-- `BindingAnchors::put` meets its contract.
use Rattle.std.proofs.Common.{◌≡◌, refl, sym, ap, rules, arith, List, length}
use Rattle.std.proofs.Math.Seq.{set_out}
use Rattle.spec_patch.specs.Sizes.{anchors}
use Rattle.active_projection_target_catalog.specs.declared.catalog.BindingPair.{BindingPair}
use Rattle.session_from_pairs.specs.Pairs.{with_pair}
use Rattle.session_from_pairs.proofs.pairs.BindingAnchors.put.Goals as goal

pub returns-then-i-lt-ANCHORS : goal.returns-then-i-lt-ANCHORS
unfolding with_pair
returns-then-i-lt-ANCHORS c = refl

pub returns : goal.returns
unfolding with_pair
returns c =
    let long : length c.args.self.pairs ≡ anchors = search rules in
    ap (λ (l : List BindingPair). record { pairs = l; given = c.args.self.given }) (sym (set_out c.args.self.pairs c.args.i c.args.pair (omega arith)))
