-- `update_entry` meets its contract: the row of the key is replaced, or there is none.
use mathlib.Core.Path.{refl, sym, ◌∙◌}
use borrow.Author.Rules.{rules}
use Rattle.panel_plan.specs.PlanRows.{planned_entry_row}
use Rattle.panel_entries.specs.EntryRowsLaws.{planned_keyed}
use Rattle.panel_entries.proofs.Entries.{updated, not_updated}
use Rattle.panel_entries.proofs.update_entry.Goals as goal

pub returns : goal.returns
returns c =
    record {
      made = (λ p s v.
          updated c.replace_record.new.table (search rules) p s _ c.entry_row-row.result c.entry_row-row.ensures (search rules) _
          (sym (c.find_entry.ensures.first planned_entry_row planned_keyed p.entries v.fit_entries v.entries s.rows) ∙ c.in-Some.is) c.replace_record.ensures);
      kept = search rules;
    }

pub returns-in_default : goal.returns-in_default
returns-in_default c =
    record {
      made = (λ p s v.
          not_updated c.args.table.now p _ (sym (c.find_entry.ensures.first planned_entry_row planned_keyed p.entries v.fit_entries v.entries s.rows) ∙ c.in_default.is));
      kept = refl;
    }
