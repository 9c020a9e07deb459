-- `script_calls::calls::create_session` meets its contract: the kept anchors are lent.
use Prim.Native.Nat.{◌-◌}
use mathlib.Core.Path.{◌≡◌, subst}
use native.Mathlib.Omega.{arith}
use lib.ListN.{length}
use Rattle.spec_session.specs.Session.{Creation}
use Rattle.spec_replay.specs.Replay.{kept_anchors}
use Rattle.session_creation.specs.Creation.{Creates}
use Rattle.script_calls.specs.ReplayHoldsLaws.{setup_creates}
use borrow.Author.Rules.{rules}
use Rattle.script_calls.proofs.calls.create_session.Goals as goal

pub slice_bounds-create_from-end : goal.slice_bounds-create_from-end
slice_bounds-create_from-end c =
    let long : length c.args.setup.nodes ≡ kept_anchors = search rules in
    omega (arith, c.held-node_count.ensures, long)

pub slice_bounds-create_from-end-2 : goal.slice_bounds-create_from-end-2
slice_bounds-create_from-end-2 c =
    let long : length c.args.setup.collections ≡ kept_anchors = search rules in
    omega (arith, c.held-collection_count.ensures, long)

pub returns : goal.returns
returns c =
    λ m h. subst (λ (k : Creation). Creates k c.create_from.result) (setup_creates c.args.setup m h _ _ c.held-node_count.ensures c.held-collection_count.ensures) c.create_from.ensures.1
