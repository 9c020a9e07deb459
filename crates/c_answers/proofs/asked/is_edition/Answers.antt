-- `is_edition` meets its contract.
use mathlib.Core.Path.{refl}
use borrow.Author.Tests.{eq-eqb, ne_eqb}
use Rattle.c_answers.specs.Asked.{is_edition}
use Rattle.c_answers.proofs.asked.is_edition.Goals as goal

pub returns-then-edition-eq1 : goal.returns-then-edition-eq1
unfolding is_edition
returns-then-edition-eq1 c = rw (eq-eqb _ 1 c.if-edition-eq1.true) refl

pub returns : goal.returns
unfolding is_edition
returns c = rw (ne_eqb _ 1 c.if-edition-eq1.false) refl
