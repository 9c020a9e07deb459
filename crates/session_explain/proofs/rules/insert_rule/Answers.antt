-- `session_explain::rules::insert_rule` meets its contract, by what the two searches answer.
use mathlib.Core.Path.{sym, ◌∙◌}
use Rattle.panel_plan.specs.PlanRows.{planned_entry_row}
use Rattle.panel_entries.specs.EntryRowsLaws.{planned_keyed}
use Rattle.session_explain.specs.RulesLaws.{rule_insert_present, rule_insert_full, rule_insert_no_neighbour}
use borrow.Author.Rules.{rules}
use Rattle.session_explain.proofs.rules.insert_rule.Goals as goal

pub returns-in-Some : goal.returns-in-Some
returns-in-Some c = λ p w s v. rule_insert_present p _ _ _ w _ (sym (c.find_entry.ensures.first planned_entry_row planned_keyed p.entries v.fit_entries v.entries s.rows) ∙ c.in-Some.is)

pub returns-in-Some-place_before : goal.returns-in-Some-place_before
returns-in-Some-place_before c = λ p w s v. rule_insert_full p _ _ _ w (sym (c.find_entry.ensures.first planned_entry_row planned_keyed p.entries v.fit_entries v.entries s.rows) ∙ c.in_default.is) _ (sym (c.place_before.ensures.first p.entries v.fit_entries v.entries s.rows) ∙ c.in-Some-place_before.is)

pub returns-in-None : goal.returns-in-None
returns-in-None c = λ p w s v. rule_insert_no_neighbour p _ _ _ w (sym (c.find_entry.ensures.first planned_entry_row planned_keyed p.entries v.fit_entries v.entries s.rows) ∙ c.in_default.is) (sym (c.place_before.ensures.first p.entries v.fit_entries v.entries s.rows) ∙ c.in-None.is)
