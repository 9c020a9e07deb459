-- `session_explain::gates::explain_counts` meets its contract: each answer follows from the tests before it.
use borrow.Author.Tests.{eq-eqb, ne_eqb}
use Rattle.spec_explain.specs.Explain.{require_or}
use Rattle.session_explain.specs.Steps.{explain_counts_by}
use borrow.Author.Rules.{rules}
use Rattle.session_explain.proofs.gates.explain_counts.Goals as goal

pub returns-then-declared-references : goal.returns-then-declared-references
unfolding explain_counts_by require_or
returns-then-declared-references c = rw (eq-eqb c.args.envelope.patch_count c.args.patches (search rules), eq-eqb c.args.declared c.args.references (search rules)) c.explain_references.ensures

pub returns-else-declared-references : goal.returns-else-declared-references
unfolding explain_counts_by require_or
returns-else-declared-references c = rw (eq-eqb c.args.envelope.patch_count c.args.patches (search rules), ne_eqb _ _ c.if-declared-references.false)

pub returns-else-envelope-patches : goal.returns-else-envelope-patches
unfolding explain_counts_by require_or
returns-else-envelope-patches c = rw (ne_eqb _ _ c.if-envelope-patches.false)
