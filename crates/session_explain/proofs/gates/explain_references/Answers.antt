-- `session_explain::gates::explain_references` meets its contract, by its test.
use borrow.Author.Tests.{lt-leb, le-leb}
use Rattle.spec_explain.specs.Explain.{require_or}
use Rattle.session_explain.specs.Steps.{references_by}
use Rattle.session_explain.proofs.gates.explain_references.Goals as goal

pub returns-then-limit-references : goal.returns-then-limit-references
unfolding references_by require_or
returns-then-limit-references c = rw (lt-leb c.args.references c.args.limits.max_target_references_per_transition c.if-limit-references.true)

pub returns : goal.returns
unfolding references_by require_or
returns c = rw (le-leb c.args.references c.args.limits.max_target_references_per_transition c.if-limit-references.false)
