-- `move_entry` meets its contract: the key or its neighbour is not there, or its row is moved.
use mathlib.Core.Path.{refl, sym, ◌∙◌}
use borrow.Author.Rules.{rules}
use Rattle.panel_plan.specs.PlanRows.{planned_entry_row}
use Rattle.panel_entries.specs.EntryRowsLaws.{planned_keyed}
use Rattle.panel_entries.proofs.Entries.{within_at, position_at, not_moved, no_other, moved_there}
use Rattle.panel_entries.proofs.move_entry.Goals as goal

pub move_row-requires : goal.move_row-requires
move_row-requires c = (within_at _ _ c.in-Some.is c.find_entry.ensures.within, position_at _ _ c.in-Some-place_before_other.is c.place_before_other.ensures.within)

pub returns : goal.returns
returns c =
    record {
      made = (λ p s v.
          moved_there c.move_row.new.table (search rules) p s v _ _ _ _ _
          (sym (c.find_entry.ensures.first planned_entry_row planned_keyed p.entries v.fit_entries v.entries s.rows) ∙ c.in-Some.is)
          (sym (c.place_before_other.ensures.first p.entries v.fit_entries v.entries s.rows) ∙ c.in-Some-place_before_other.is) c.move_row.ensures);
      kept = search rules;
    }

pub returns-in_default-place_before_other : goal.returns-in_default-place_before_other
returns-in_default-place_before_other c =
    record {
      made = (λ p s v.
          no_other c.args.table.now p v _ _ _ _
          (sym (c.find_entry.ensures.first planned_entry_row planned_keyed p.entries v.fit_entries v.entries s.rows) ∙ c.in-Some.is)
          (sym (c.place_before_other.ensures.first p.entries v.fit_entries v.entries s.rows) ∙ c.in_default-place_before_other.is));
      kept = refl;
    }

pub returns-in_default : goal.returns-in_default
returns-in_default c =
    record {
      made = (λ p s v.
          not_moved c.args.table.now p v _ _ _ (sym (c.find_entry.ensures.first planned_entry_row planned_keyed p.entries v.fit_entries v.entries s.rows) ∙ c.in_default.is));
      kept = refl;
    }
