-- `session_explain::gates::explain_preflight` meets its contract: each answer follows from the tests before it.
use mathlib.Core.Path.{sym, ◌∙◌}
use borrow.Author.Tests.{eq-eqb, ne_eqb}
use Rattle.spec_explain.specs.Explain.{require_or}
use Rattle.session_explain.specs.Steps.{explain_preflight_by}
use borrow.Author.Rules.{rules}
use Rattle.session_explain.proofs.gates.explain_preflight.Goals as goal

pub returns-then-session_id-id : goal.returns-then-session_id-id
unfolding explain_preflight_by require_or
returns-then-session_id-id c = rw (ne_eqb _ _ c.if-session_id-id.true)

pub returns-then-is_closed : goal.returns-then-is_closed
unfolding explain_preflight_by require_or
returns-then-is_closed c = rw (eq-eqb c.args.envelope.session_id.0 c.args.id (search rules), sym c.is_closed.ensures ∙ c.if-is_closed.true)

pub returns : goal.returns
unfolding explain_preflight_by require_or
returns c = rw (eq-eqb c.args.envelope.session_id.0 c.args.id (search rules), sym c.is_closed.ensures ∙ c.if-is_closed.false) c.explain_declared.ensures
