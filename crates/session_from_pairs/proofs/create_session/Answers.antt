-- `create_session` meets its contract: the copied pairs are the lent list.
use Rattle.std.proofs.Common.{ap, ◌∙◌}
use Rattle.session_creation.specs.Creation.{creation_with}
use Rattle.session_from_pairs.specs.declared.pairs.BindingAnchors.{BindingAnchors}
use Rattle.session_from_pairs.specs.Pairs.{anchors_of}
use Rattle.session_from_pairs.proofs.CreatesFromLaws.{copied_creates}
use Rattle.session_from_pairs.proofs.create_session.Goals as goal

pub returns : goal.returns
unfolding anchors_of
returns c =
    copied_creates c.args.id c.args.limits c.args.nodes.now c.args.pairs.now c.args.collections.now c.create_with_anchors.result
    (c.create_with_anchors.ensures ∙ ap (λ (a : BindingAnchors). creation_with c.args.id c.args.limits c.args.nodes.now a.pairs a.given c.args.collections.now) c.copy_binding_pairs-anchors.ensures)
