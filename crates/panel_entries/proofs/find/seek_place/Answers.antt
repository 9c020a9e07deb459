-- `find::seek_place` meets its contract: the neighbour's position, or that of the first entry of a later collection.
use mathlib.Core.Path.{ap, ◌∙◌}
use mathlib.Core.List.{map}
use borrow.Author.Rules.{rules}
use Rattle.spec_lists.proofs.ListLaws.{all_map}
use Rattle.spec_projection.specs.Entries.{is_later}
use Rattle.spec_projection.specs.Valid.{FitsEntry}
use Rattle.bytes_records.specs.PositionsLaws.{first_index_map}
use Rattle.bytes_records.specs.Search.{is_above}
use Rattle.panel_plan.specs.PlanRows.{planned_entry_row}
use Rattle.panel_entries.specs.EntryRowsLaws.{planned_keyed, entry_above, entries_rising}
use Rattle.panel_entries.specs.Places.{neighbour_of, place_before, PositionWithin}
use Rattle.panel_entries.proofs.Entries.{within_position}
use Rattle.panel_entries.proofs.find.seek_place.Goals as goal
use Rattle.std.specs.Prelude.{Some}

pub returns-then-placed : goal.returns-then-placed
unfolding place_before neighbour_of
returns-then-placed c =
    record { first = (λ es fit grouped t. rw c.if-placed.true (c.find_entry.ensures.first planned_entry_row planned_keyed es fit grouped t)); within = within_position c.args.count _ c.find_entry.ensures.within }

pub returns : goal.returns
unfolding place_before neighbour_of PositionWithin
returns c =
    record {
      first = (λ es fit grouped t.
          rw c.if-placed.false
          (ap Some (c.find_above.ensures.first (map planned_entry_row es) t (entries_rising planned_keyed es fit grouped) ∙ first_index_map planned_entry_row (is_above c.args.collection) (is_later c.args.collection) es (all_map FitsEntry _ (entry_above planned_keyed c.args.collection) es fit))));
      within = c.find_above.ensures.within;
    }
