-- `evaluate_preflight` meets its contract: each answer follows from the tests before it.
use mathlib.Core.Path.{sym, ◌∙◌}
use borrow.Author.Rules.{rules}
use borrow.Author.Tests.{eq-eqb, ne_eqb, le-leb, lt-leb}
use Rattle.spec_session.specs.Batch.{require}
use Rattle.session_gates.specs.Gates.{step_of, preflight_by}
use borrow.Author.Rules.{rules}
use Rattle.session_gates.proofs.gates.evaluate_preflight.Goals as goal

pub returns-then-envelope-id : goal.returns-then-envelope-id
unfolding step_of preflight_by require
returns-then-envelope-id c = rw (ne_eqb _ _ c.if-envelope-id.true)

pub returns-then-is_closed : goal.returns-then-is_closed
unfolding step_of preflight_by require
returns-then-is_closed c = rw (eq-eqb c.args.envelope.session_id.0 c.args.id (search rules), sym c.is_closed.ensures ∙ c.if-is_closed.true)

pub returns-then-limits-envelope : goal.returns-then-limits-envelope
unfolding step_of preflight_by require
returns-then-limits-envelope c = rw (eq-eqb c.args.envelope.session_id.0 c.args.id (search rules), sym c.is_closed.ensures ∙ c.if-is_closed.false, lt-leb c.args.envelope.patch_count c.args.limits.max_patches_per_transition c.if-limits-envelope.true)

pub returns-then-limits-envelope-2 : goal.returns-then-limits-envelope-2
unfolding step_of preflight_by require
returns-then-limits-envelope-2 c = rw (eq-eqb c.args.envelope.session_id.0 c.args.id (search rules), sym c.is_closed.ensures ∙ c.if-is_closed.false, le-leb c.args.envelope.patch_count c.args.limits.max_patches_per_transition c.if-limits-envelope.false, lt-leb c.args.envelope.stimulus_bytes c.args.limits.max_transition_stimulus_bytes c.if-limits-envelope-2.true)

pub returns : goal.returns
unfolding step_of preflight_by require
returns c = rw (eq-eqb c.args.envelope.session_id.0 c.args.id (search rules), sym c.is_closed.ensures ∙ c.if-is_closed.false, le-leb c.args.envelope.patch_count c.args.limits.max_patches_per_transition c.if-limits-envelope.false, le-leb c.args.envelope.stimulus_bytes c.args.limits.max_transition_stimulus_bytes c.if-limits-envelope-2.false)
