-- `check_targets` meets its contract.
use borrow.Author.Tests.{eq-eqb, ne_eqb}
use native.Mathlib.Omega.{arith}
use Rattle.spec_session.specs.Batch.{known_targets}
use Rattle.session_gates.specs.Gates.{gate_of}
use Rattle.session_gates.proofs.batch.check_targets.Goals as goal

pub returns-then-absent-gt0 : goal.returns-then-absent-gt0
unfolding gate_of known_targets
returns-then-absent-gt0 c = rw (ne_eqb c.args.absent 0 (λ z. omega arith))

pub returns : goal.returns
unfolding gate_of known_targets
returns c = rw (eq-eqb c.args.absent 0 (omega arith))
