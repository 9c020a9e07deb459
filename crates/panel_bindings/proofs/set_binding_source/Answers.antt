-- `set_binding_source` meets its contract: the row of a planned binding, at its place.
use borrow.Author.Rules.{rules}
use Rattle.spec_projection.specs.Projection.{binding_key}
use Rattle.panel_plan.specs.PlanRows.{planned_binding_width, planned_binding_row}
use Rattle.panel_plan.proofs.PlanRowsLaws.{planned_binding_key}
use Rattle.panel_bindings.proofs.Settings.{binding_set}
use Rattle.panel_bindings.proofs.set_binding_source.Goals as goal

pub returns : goal.returns
unfolding binding_key
returns c =
    record {
      made = (λ p s v.
          binding_set _ c.args.table.now c.upsert_row.new.table c.binding_row-row.result _ c.upsert_row.result p v planned_binding_row planned_binding_width planned_binding_key _ s (record {
            same = search rules;
            is = c.binding_row-row.ensures;
            wide = search rules;
            within = c.find_pair_place-place.ensures.within;
            placed = c.find_pair_place-place.ensures.first;
            made = c.upsert_row.ensures.made;
          }));
      kept = c.upsert_row.ensures.kept;
    }
