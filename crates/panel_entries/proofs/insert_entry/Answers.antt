-- `insert_entry` meets its contract: the key is there, the neighbour is not, there is no room, or the row is inserted.
use mathlib.Core.Path.{◌≡◌, refl, sym, ap, ◌∙◌}
use mathlib.Core.List.{List, map}
use native.Mathlib.Omega.{arith}
use borrow.Author.Rules.{rules}
use Rattle.spec_lists.specs.Lists.{All}
use Rattle.spec_projection.specs.Projection.{Entry}
use Rattle.spec_projection.specs.Valid.{FitsEntry, Grouped}
use Rattle.bytes_records.specs.Table.{HoldsRows, Wide}
use Rattle.projection_patch.specs.Meaning.{before_of}
use Rattle.panel_plan.specs.PlanRows.{planned_entry_width, planned_entry_row}
use Rattle.panel_bindings.specs.RowChanges.{insert_room}
use Rattle.panel_entries.specs.EntryRowsLaws.{planned_keyed}
use Rattle.panel_entries.specs.Places.{place_before}
use Rattle.panel_entries.specs.PlacesLaws.{neighbour_is}
use Rattle.panel_entries.proofs.Entries.{none_is, some_is, position_at, inserted_there, inserted_nowhere, key_present_lem, neighbour_missing}
use Rattle.panel_entries.proofs.insert_entry.Goals as goal
use Rattle.panel_entries.proofs.insert_entry.Goals.{After-entry_row-row, After-seek_place}

-- the place that was sought is the neighbour's
placed : (c : After-seek_place) → (es : List Entry) → All FitsEntry es → Grouped es
    → HoldsRows planned_entry_width c.args.count c.args.table.now (map planned_entry_row es) → c.seek_place.result ≡ place_before c.args.collection (before_of c.args.before) es
placed c es fit grouped t =
    c.seek_place.ensures.first es fit grouped t
    ∙ ap (λ b. place_before c.args.collection b es) (neighbour_is c.has_neighbour-placed.ensures c.neighbour_key-neighbour.ensures)

-- the row is as wide as the table's
row_wide : (c : After-entry_row-row) → Wide planned_entry_width c.entry_row-row.result
row_wide c = search rules

pub returns-then-is_some-clause-made : goal.returns-then-is_some-clause-made
returns-then-is_some-clause-made c = λ p s v.
    let there = some_is _ _ c.is_some.ensures c.if-is_some.true in
    key_present_lem c.args.table.now p _ _ there.0 (sym (c.find_entry.ensures.first planned_entry_row planned_keyed p.entries v.fit_entries v.entries s.rows) ∙ there.1)

pub overflow_add-result : goal.overflow_add-result
overflow_add-result c = omega (arith, insert_room _ _ _ _ _ (search rules) (sym c.insert_record.ensures.told ∙ c.if-insert_record.true))

pub returns-then-insert_record : goal.returns-then-insert_record
returns-then-insert_record c =
    record {
      made = (λ p s v.
          inserted_there c.insert_record.new.table (search rules) p s _ c.entry_row-row.result c.entry_row-row.ensures (row_wide (goal.at.returns-then-insert_record c).After-entry_row-row) _ _
          (sym (c.find_entry.ensures.first planned_entry_row planned_keyed p.entries v.fit_entries v.entries s.rows) ∙ (none_is _ _ c.is_some.ensures c.if-is_some.false))
          (sym (placed (goal.at.returns-then-insert_record c).After-seek_place p.entries v.fit_entries v.entries s.rows) ∙ c.in-Some.is) c.insert_record.ensures c.if-insert_record.true);
      kept = search rules;
    }

pub returns : goal.returns
returns c =
    record {
      made = (λ p s v.
          inserted_nowhere c.insert_record.new.table (search rules) p s _ c.entry_row-row.result c.entry_row-row.ensures (row_wide (goal.at.returns c).After-entry_row-row) _ _
          (sym (c.find_entry.ensures.first planned_entry_row planned_keyed p.entries v.fit_entries v.entries s.rows) ∙ (none_is _ _ c.is_some.ensures c.if-is_some.false))
          (sym (placed (goal.at.returns c).After-seek_place p.entries v.fit_entries v.entries s.rows) ∙ c.in-Some.is) c.insert_record.ensures
          (position_at _ _ c.in-Some.is c.seek_place.ensures.within) c.if-insert_record.false);
      kept = c.insert_record.ensures.kept c.if-insert_record.false;
    }

pub returns-in_default : goal.returns-in_default
returns-in_default c =
    record {
      made = (λ p s v.
          neighbour_missing c.args.table.now p _ _
          (sym (c.find_entry.ensures.first planned_entry_row planned_keyed p.entries v.fit_entries v.entries s.rows) ∙ (none_is _ _ c.is_some.ensures c.if-is_some.false))
          (sym (placed (goal.at.returns-in_default c).After-seek_place p.entries v.fit_entries v.entries s.rows) ∙ c.in_default.is));
      kept = refl;
    }
