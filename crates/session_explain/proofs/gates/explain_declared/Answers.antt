-- `session_explain::gates::explain_declared` meets its contract: each answer follows from the tests before it.
use borrow.Author.Tests.{lt-leb, le-leb}
use Rattle.spec_explain.specs.Explain.{require_or, which_limit}
use Rattle.session_explain.specs.Steps.{declared_by}
use Rattle.std.specs.Prelude.{Err}
use Rattle.std.proofs.Common.{ap}
use Rattle.session_explain.proofs.gates.explain_declared.Goals as goal

pub returns-then-limits-envelope-2 : goal.returns-then-limits-envelope-2
unfolding declared_by require_or which_limit
returns-then-limits-envelope-2 c = rw (lt-leb c.args.envelope.patch_count c.args.limits.max_patches_per_transition c.if-limits-envelope.true, lt-leb c.args.envelope.stimulus_bytes c.args.limits.max_transition_stimulus_bytes c.if-limits-envelope-2.true) (ap Err c.over_declared.ensures)

pub returns-then-limits-envelope : goal.returns-then-limits-envelope
unfolding declared_by require_or which_limit
returns-then-limits-envelope c = rw (lt-leb c.args.envelope.patch_count c.args.limits.max_patches_per_transition c.if-limits-envelope.true, le-leb c.args.envelope.stimulus_bytes c.args.limits.max_transition_stimulus_bytes c.if-limits-envelope-2.false) (ap Err c.over_declared-then-limits-envelope.ensures)

pub returns-then-limits-envelope-3 : goal.returns-then-limits-envelope-3
unfolding declared_by require_or which_limit
returns-then-limits-envelope-3 c = rw (le-leb c.args.envelope.patch_count c.args.limits.max_patches_per_transition c.if-limits-envelope.false, lt-leb c.args.envelope.stimulus_bytes c.args.limits.max_transition_stimulus_bytes c.if-limits-envelope-3.true) (ap Err c.over_declared-then-limits-envelope-3.ensures)

pub returns : goal.returns
unfolding declared_by require_or which_limit
returns c = rw (le-leb c.args.envelope.patch_count c.args.limits.max_patches_per_transition c.if-limits-envelope.false, le-leb c.args.envelope.stimulus_bytes c.args.limits.max_transition_stimulus_bytes c.if-limits-envelope-3.false)
