-- `edition_of` meets its contract.
use mathlib.Core.Path.{refl}
use borrow.Author.Tests.{eq-eqb, ne_eqb}
use Rattle.c_answers.specs.Asked.{edition_at}
use Rattle.c_answers.proofs.asked.edition_of.Goals as goal

pub returns-then-edition-eq1 : goal.returns-then-edition-eq1
unfolding edition_at
returns-then-edition-eq1 c = rw (eq-eqb _ 1 c.if-edition-eq1.true) refl

pub returns : goal.returns
unfolding edition_at
returns c = rw (ne_eqb _ 1 c.if-edition-eq1.false) refl
