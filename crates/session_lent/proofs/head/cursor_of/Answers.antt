-- `cursor_of` meets its contract.
use mathlib.Core.Path.{refl}
use borrow.Author.Tests.{eq-eqb, ne_eqb}
use Rattle.session_lifecycle.specs.Meaning.{cursor_of}
use Rattle.session_lent.specs.Head.{cursor_numbered}
use Rattle.session_lent.proofs.head.cursor_of.Goals as goal

pub returns-then-kind-eq0 : goal.returns-then-kind-eq0
unfolding cursor_of cursor_numbered
returns-then-kind-eq0 c = rw (eq-eqb _ 0 c.if-kind-eq0.true) refl

pub returns : goal.returns
unfolding cursor_of cursor_numbered
returns c = rw (ne_eqb _ 0 c.if-kind-eq0.false) refl
