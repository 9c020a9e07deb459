-- `copy_binding_pairs` meets its contract: a turn copies one pair.
use Rattle.std.proofs.Common.{ap, ◌∙◌, arith, get_or}
use Rattle.active_projection_target_catalog.specs.Catalog.{no_pair}
use Rattle.session_from_pairs.specs.declared.pairs.BindingAnchors.{BindingAnchors}
use Rattle.session_from_pairs.specs.Pairs.{with_pair}
use Rattle.session_from_pairs.proofs.PairsLaws.{starts, steps, all_copied}
use Rattle.session_from_pairs.proofs.pairs.copy_binding_pairs.Goals as goal

pub loop-i-init : goal.loop-i-init
loop-i-init c = (omega arith, c.none-anchors.ensures ∙ starts c.args.pairs.now)

pub loop-i-preserved : goal.loop-i-preserved
loop-i-preserved c = (
  omega arith,
  c.put-anchors.ensures ∙ ap (λ (a : BindingAnchors). with_pair a c.loop-i.i (get_or c.args.pairs.now c.loop-i.i no_pair)) c.loop-i.invariant.1 ∙ steps c.args.pairs.now c.loop-i.i (omega arith) (omega arith),
)

pub returns : goal.returns
returns c = c.loop-i.invariant.1 ∙ all_copied c.args.pairs.now c.loop-i.i (omega arith)
