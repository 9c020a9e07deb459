-- `c_answers::figures::inside_place` meets its contract, case by case.
use mathlib.Core.Path.{sym, ap, ◌∙◌}
use Rattle.patch_locate.specs.Answers.{inside_of}
use Rattle.patch_locate.specs.declared.rules.Inside.{Inside}
use Rattle.c_answers.specs.Explanations.{inside_place}
use borrow.Author.Rules.{rules}
use Rattle.c_answers.proofs.figures.inside_place.Goals as goal

pub returns-in-Outside : goal.returns-in-Outside
returns-in-Outside c = c.no_place.ensures ∙ sym (ap (λ (x : Inside). inside_place (inside_of x)) c.in-Outside.is)

pub returns-in-Patch : goal.returns-in-Patch
returns-in-Patch c = c.patch_place.ensures ∙ sym (ap (λ (x : Inside). inside_place (inside_of x)) c.in-Patch.is)

pub returns-in-Operation : goal.returns-in-Operation
returns-in-Operation c = c.operation_place.ensures ∙ sym (ap (λ (x : Inside). inside_place (inside_of x)) c.in-Operation.is)
