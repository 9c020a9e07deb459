-- `DependenciesRefusal::number` meets its contract, case by case.
use Prim.Native.Nat.{ℕ}
use mathlib.Core.Path.{sym, ap, ◌∙◌}
use borrow.Author.Rules.{rules}
use Rattle.spec_dependencies.specs.Answer.{refusal_number}
use Rattle.set_dependencies.specs.DependsAnswers.{depends_refusal_of}
use Rattle.set_dependencies.specs.declared.depends.DependenciesRefusal.{DependenciesRefusal}
use Rattle.set_dependencies.proofs.depends.DependenciesRefusal.number.Goals as goal

abbrev numbered : DependenciesRefusal → ℕ
numbered r = refusal_number (depends_refusal_of r)

pub returns-in-Unreadable : goal.returns-in-Unreadable
unfolding refusal_number
returns-in-Unreadable c = c.number.ensures ∙ sym (ap numbered c.in-Unreadable.is)

pub returns-in-Findings : goal.returns-in-Findings
unfolding refusal_number
returns-in-Findings c = search rules

pub returns-in-OutputTooShort : goal.returns-in-OutputTooShort
unfolding refusal_number
returns-in-OutputTooShort c = search rules
