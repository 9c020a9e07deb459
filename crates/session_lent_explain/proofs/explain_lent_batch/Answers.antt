-- `session_lent_explain::explain_lent_batch` meets its contract: anchors and tables of the right shape are explained, and others are no session.
use Rattle.std.proofs.Common.{refl, sym, ◌∙◌}
use Rattle.projection_patch.specs.Meaning.{edition_of}
use Rattle.session_gates.specs.Gates.{batch_envelope_of}
use Rattle.session_explain.specs.BatchLaws.{told_is}
use Rattle.session_lent.specs.BatchesLaws.{half_head}
use Rattle.session_lent_views.specs.ViewsLaws.{viewed_refused, viewed_answered}
use Rattle.session_lent_explain.specs.LentExplainLaws.{session_shaped_lem, both_shaped, half_unshaped, anchors_unshaped, shaped_cap}
use Rattle.session_lent_explain.proofs.explain_lent_batch.Goals as goal

pub limits_in-limits-requires : goal.limits_in-limits-requires
limits_in-limits-requires c = half_head _ _ _ _ (sym c.half_shaped.ensures ∙ c.if-not-half_shaped.false)

pub explain_steps-steps-requires : goal.explain_steps-steps-requires
explain_steps-steps-requires c = half_head _ _ _ _ (sym c.half_shaped.ensures ∙ c.if-not-half_shaped.false)

pub returns-then-not-anchors_shaped : goal.returns-then-not-anchors_shaped
returns-then-not-anchors_shaped c = viewed_refused _ refl (anchors_unshaped _ _ _ _ _ _ _ (sym c.anchors_shaped.ensures ∙ c.if-not-anchors_shaped.true)) (session_shaped_lem _ _ _ _ _ _ _)

pub returns-then-not-half_shaped : goal.returns-then-not-half_shaped
returns-then-not-half_shaped c =
    viewed_refused _ refl (half_unshaped _ _ _ _ _ _ _ (sym c.anchors_shaped.ensures ∙ c.if-not-anchors_shaped.false) (sym c.half_shaped.ensures ∙ c.if-not-half_shaped.true)) (session_shaped_lem _ _ _ _ _ _ _)

pub returns : goal.returns
returns c =
    viewed_answered c.under_cap.result (both_shaped _ _ _ _ _ _ _ (sym c.anchors_shaped.ensures ∙ c.if-not-anchors_shaped.false) (sym c.half_shaped.ensures ∙ c.if-not-half_shaped.false))
    (λ m h. c.under_cap.ensures ∙ told_is (edition_of c.args.edition) m (batch_envelope_of c.args.envelope) c.args.declared_target_reference_count c.args.set.now (shaped_cap _ _ _ _ _ _ _ c.limits_in-limits.result c.limits_in-limits.ensures m h) (c.explain_steps-steps.ensures m h))
