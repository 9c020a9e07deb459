-- `set_node_availability` meets its contract: the row of an availability, at its place.
use borrow.Author.Rules.{rules}
use Rattle.spec_projection.specs.Projection.{availability_key}
use Rattle.panel_bindings.proofs.Settings.{availability_set}
use Rattle.panel_bindings.proofs.set_node_availability.Goals as goal

pub returns : goal.returns
unfolding availability_key
returns c =
    record {
      made = (λ p s v.
          availability_set _ c.args.table.now c.upsert_row.new.table c.availability_row-row.result _ c.upsert_row.result p v _ s (record {
            same = search rules;
            is = c.availability_row-row.ensures;
            wide = search rules;
            within = c.find_place-place.ensures.within;
            placed = c.find_place-place.ensures.first;
            made = c.upsert_row.ensures.made;
          }));
      kept = c.upsert_row.ensures.kept;
    }
