-- `surface_at` meets its contract.
use mathlib.Core.Path.{refl, ap}
use mathlib.Core.Option.{some}
use borrow.Author.Tests.{eq-eqb, ne_eqb}
use Rattle.c_answers.specs.Asked.{surface_at}
use borrow.Author.Rules.{rules}
use Rattle.c_answers.proofs.asked.surface_at.Goals as goal

pub returns-then-has-eq0 : goal.returns-then-has-eq0
unfolding surface_at
returns-then-has-eq0 c = rw (eq-eqb _ 0 c.if-has-eq0.true) refl

pub returns : goal.returns
unfolding surface_at
returns c = rw (ne_eqb _ 0 c.if-has-eq0.false) (ap some c.new.ensures)
