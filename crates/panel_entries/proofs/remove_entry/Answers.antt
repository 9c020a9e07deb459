-- `remove_entry` meets its contract: the row of the key is removed, or there is none.
use mathlib.Core.Path.{refl, sym, ◌∙◌}
use native.Mathlib.Omega.{arith}
use borrow.Author.Rules.{rules}
use Rattle.panel_plan.specs.PlanRows.{planned_entry_row}
use Rattle.panel_entries.specs.EntryRowsLaws.{planned_keyed}
use Rattle.panel_entries.proofs.Entries.{within_at, removed_there, not_removed}
use Rattle.panel_entries.proofs.remove_entry.Goals as goal

pub overflow_sub-result : goal.overflow_sub-result
overflow_sub-result c = omega (arith, within_at _ _ c.in-Some.is c.find_entry.ensures.within)

pub returns : goal.returns
returns c =
    record {
      made = (λ p s v.
          removed_there c.remove_record.new.table (search rules) p s _ _ _
          (sym (c.find_entry.ensures.first planned_entry_row planned_keyed p.entries v.fit_entries v.entries s.rows) ∙ c.in-Some.is) c.remove_record.ensures);
      kept = search rules;
    }

pub returns-in_default : goal.returns-in_default
returns-in_default c =
    record {
      made = (λ p s v.
          not_removed c.args.table.now p _ _ (sym (c.find_entry.ensures.first planned_entry_row planned_keyed p.entries v.fit_entries v.entries s.rows) ∙ c.in_default.is));
      kept = refl;
    }
