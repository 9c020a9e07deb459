-- `check_quick::quick_patches::patch_found` meets its contract: the tests in their order.
use mathlib.Core.Path.{sym, ap, ◌∙◌}
use borrow.Author.Tests.{eq-eqb, ne_eqb}
use Rattle.spec_lists.proofs.ListLaws.{or_true}
use Rattle.projection_patch.specs.Meaning.{envelope_of}
use Rattle.check_findings.specs.Found.{is_found}
use Rattle.check_quick.specs.Quick.{head_found}
use Rattle.check_quick.specs.QuickLaws.{or_false}
use Rattle.check_quick.proofs.quick_patches.patch_found.Goals as goal
use Rattle.check_quick.proofs.quick_patches.patch_found.Goals.{then-operations-via-then-operations, then-operations-via-else-operations+then-head-eq0}

pub returns-then-operations : goal.returns-then-operations
unfolding head_found
returns-then-operations c = elim c.then-operations.branch [
  | then-operations-via-then-operations w ↦ sym (or_true (head_found (envelope_of c.args.head.envelope) c.args.head.operation_count) _ w.if-operations.true)
  | then-operations-via-else-operations+then-head-eq0 w ↦ rw (eq-eqb _ _ w.if-head-eq0.true)
]

pub returns : goal.returns
unfolding head_found
returns c =
    rw (ne_eqb _ _ c.if-head-eq0.false, c.if-operations.false) (c.envelope_found.ensures ∙ ap is_found c.envelope_findings.ensures ∙ sym (or_false _))
