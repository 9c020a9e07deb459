-- `c_answers::figures::taken_figure` meets its contract, case by case.
use Rattle.std.specs.Prelude as code
use Rattle.std.specs.Prelude.{ℕ}
use mathlib.Core.Path.{sym, ap, ◌∙◌}
use Rattle.spec_lists.specs.Options.{optional_of}
use Rattle.c_answers.specs.Explanations.{taken_figure}
use borrow.Author.Rules.{rules}
use Rattle.c_answers.proofs.figures.taken_figure.Goals as goal

pub returns-in-None : goal.returns-in-None
returns-in-None c = c.figures.ensures ∙ sym (ap (λ (x : code.Option ℕ). taken_figure (optional_of x)) c.in-None.is)

pub returns-in-Some : goal.returns-in-Some
returns-in-Some c = c.figures-in-Some.ensures ∙ sym (ap (λ (x : code.Option ℕ). taken_figure (optional_of x)) c.in-Some.is)
