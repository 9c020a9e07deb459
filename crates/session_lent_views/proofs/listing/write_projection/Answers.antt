-- `write_projection` meets its contract: the three tables are listed, or there is no session.
use mathlib.Core.Path.{refl, sym, ◌∙◌}
use Rattle.session_lent.specs.BatchesLaws.{half_head}
use Rattle.session_lent_views.specs.ViewsLaws.{tables_counted, tables_shaped, written_refused, written_answered}
use Rattle.session_lent_views.proofs.listing.write_projection.Goals as goal

pub counts_in-counts-requires : goal.counts_in-counts-requires
counts_in-counts-requires c = half_head _ _ _ _ (sym c.half_shaped.ensures ∙ c.if-not-half_shaped.false)

pub returns : goal.returns
returns c =
    written_answered _ _ c.write_tables.result (sym c.half_shaped.ensures ∙ c.if-not-half_shaped.false) c.write_tables.ensures.kept (λ m h.
    let s = tables_counted c.counts_in-counts.result c.counts_in-counts.ensures h in
    c.write_tables.ensures.lines m.projection s.bindings s.availabilities s.entries s.valid)

pub returns-then-not-half_shaped : goal.returns-then-not-half_shaped
returns-then-not-half_shaped c = written_refused _ _ refl (sym c.half_shaped.ensures ∙ c.if-not-half_shaped.true) (tables_shaped _ _ _ _)
