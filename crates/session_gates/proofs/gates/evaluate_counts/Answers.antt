-- `evaluate_counts` meets its contract: each answer follows from the tests before it.
use borrow.Author.Rules.{rules}
use borrow.Author.Tests.{eq-eqb, ne_eqb, le-leb, lt-leb}
use Rattle.spec_session.specs.Batch.{require}
use Rattle.session_gates.specs.Gates.{step_of, counts_by}
use Rattle.session_gates.proofs.gates.evaluate_counts.Goals as goal

pub returns-then-envelope-patches : goal.returns-then-envelope-patches
unfolding step_of counts_by require
returns-then-envelope-patches c = rw (ne_eqb _ _ c.if-envelope-patches.true)

pub returns-then-declared-references : goal.returns-then-declared-references
unfolding step_of counts_by require
returns-then-declared-references c = rw (eq-eqb c.args.envelope.patch_count c.args.patches (search rules), ne_eqb _ _ c.if-declared-references.true)

pub returns-then-limits-references : goal.returns-then-limits-references
unfolding step_of counts_by require
returns-then-limits-references c = rw (eq-eqb c.args.envelope.patch_count c.args.patches (search rules), eq-eqb c.args.declared c.args.references (search rules), lt-leb c.args.references c.args.limits.max_target_references_per_transition c.if-limits-references.true)

pub returns : goal.returns
unfolding step_of counts_by require
returns c = rw (eq-eqb c.args.envelope.patch_count c.args.patches (search rules), eq-eqb c.args.declared c.args.references (search rules), le-leb c.args.references c.args.limits.max_target_references_per_transition c.if-limits-references.false)
