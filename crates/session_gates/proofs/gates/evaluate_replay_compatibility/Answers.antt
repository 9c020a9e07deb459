-- `evaluate_replay_compatibility` meets its contract.
use mathlib.Core.Path.{sym, ◌∙◌}
use borrow.Author.Tests.{eq-eqb, ne_eqb}
use Rattle.spec_session.specs.Batch.{require}
use Rattle.session_gates.specs.Gates.{step_of, replay_by}
use Rattle.session_gates.proofs.gates.evaluate_replay_compatibility.Goals as goal

pub returns-then-envelope-eq0 : goal.returns-then-envelope-eq0
unfolding step_of replay_by require
returns-then-envelope-eq0 c = rw (eq-eqb _ 0 c.if-envelope-eq0.true)

pub returns-then-takes_number : goal.returns-then-takes_number
unfolding step_of replay_by require
returns-then-takes_number c = rw (ne_eqb _ 0 c.if-envelope-eq0.false, sym c.takes_number.ensures ∙ c.if-takes_number.true)

pub returns : goal.returns
unfolding step_of replay_by require
returns c = rw (ne_eqb _ 0 c.if-envelope-eq0.false, sym c.takes_number.ensures ∙ c.if-takes_number.false)
