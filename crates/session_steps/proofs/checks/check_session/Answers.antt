-- `check_session` meets its contract: the anchors that the counts name are lent.
use Rattle.session_steps.specs.ChecksLaws.{lent_parts}
use borrow.Author.Rules.{rules}
use Rattle.session_steps.proofs.checks.check_session.Goals as goal

pub slice_bounds-check_batch-end : goal.slice_bounds-check_batch-end
slice_bounds-check_batch-end c = c.lent_anchors-lent.ensures.within.0

pub slice_bounds-check_batch-end-2 : goal.slice_bounds-check_batch-end-2
slice_bounds-check_batch-end-2 c = c.lent_anchors-lent.ensures.within.1.0

pub slice_bounds-check_batch-end-3 : goal.slice_bounds-check_batch-end-3
slice_bounds-check_batch-end-3 c = c.lent_anchors-lent.ensures.within.1.1

pub returns : goal.returns
returns c =
    record {
      checked = λ s seen. c.check_batch.ensures.checked s (
          record {
            id_is = seen.id_is;
            limits_are = seen.limits_are;
            lifecycle_is = seen.lifecycle_is;
            cursor_is = seen.cursor_is;
            anchors_are = lent_parts c.lent_anchors-lent.result.nodes c.lent_anchors-lent.result.bindings c.lent_anchors-lent.result.collections c.lent_anchors-lent.result.node_count c.lent_anchors-lent.result.binding_numbers c.lent_anchors-lent.result.collection_count seen.catalogue_is c.lent_anchors-lent.ensures.are;
          }
          );
      whatever = c.check_batch.ensures.whatever;
      preflight = c.check_batch.ensures.preflight;
    }
