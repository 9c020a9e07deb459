-- `session_explain::rules::move_rule` meets its contract, by what the search answers.
use mathlib.Core.Path.{sym, ◌∙◌}
use Rattle.panel_plan.specs.PlanRows.{planned_entry_row}
use Rattle.panel_entries.specs.EntryRowsLaws.{planned_keyed}
use Rattle.session_explain.specs.RulesLaws.{rule_move_no_neighbour, rule_move_absent}
use borrow.Author.Rules.{rules}
use Rattle.session_explain.proofs.rules.move_rule.Goals as goal

pub returns-in-Some : goal.returns-in-Some
returns-in-Some c = λ p s v. rule_move_no_neighbour p _ _ _ _ (sym (c.find_entry.ensures.first planned_entry_row planned_keyed p.entries v.fit_entries v.entries s.rows) ∙ c.in-Some.is)

pub returns-in-None : goal.returns-in-None
returns-in-None c = λ p s v. rule_move_absent p _ _ _ (sym (c.find_entry.ensures.first planned_entry_row planned_keyed p.entries v.fit_entries v.entries s.rows) ∙ c.in-None.is)
