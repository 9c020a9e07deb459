-- `named_at` meets its contract.
use mathlib.Core.Path.{refl}
use borrow.Author.Tests.{eq-eqb, ne_eqb}
use Rattle.session_lent_turns.specs.LentTurns.{named_at}
use Rattle.session_lent_turns.proofs.named_at.Goals as goal

pub returns-then-kind-eq0 : goal.returns-then-kind-eq0
unfolding named_at
returns-then-kind-eq0 c = rw (eq-eqb _ 0 c.if-kind-eq0.true) refl

pub returns : goal.returns
unfolding named_at
returns c = rw (ne_eqb _ 0 c.if-kind-eq0.false) refl
