-- `session_explain::batch::explain_session` meets its contract: the anchors that the counts name are lent.
use mathlib.Core.Path.{refl}
use Rattle.session_steps.specs.ChecksLaws.{lent_parts}
use borrow.Author.Rules.{rules}
use Rattle.session_explain.proofs.batch.explain_session.Goals as goal

pub slice_bounds-explain_checks-end : goal.slice_bounds-explain_checks-end
slice_bounds-explain_checks-end c = c.lent_anchors-lent.ensures.within.0

pub slice_bounds-explain_checks-end-2 : goal.slice_bounds-explain_checks-end-2
slice_bounds-explain_checks-end-2 c = c.lent_anchors-lent.ensures.within.1.0

pub slice_bounds-explain_checks-end-3 : goal.slice_bounds-explain_checks-end-3
slice_bounds-explain_checks-end-3 c = c.lent_anchors-lent.ensures.within.1.1

pub returns : goal.returns
returns c =
    c.explain_checks.ensures _ (lent_parts c.lent_anchors-lent.result.nodes c.lent_anchors-lent.result.bindings c.lent_anchors-lent.result.collections c.lent_anchors-lent.result.node_count c.lent_anchors-lent.result.binding_numbers c.lent_anchors-lent.result.collection_count refl c.lent_anchors-lent.ensures.are)
