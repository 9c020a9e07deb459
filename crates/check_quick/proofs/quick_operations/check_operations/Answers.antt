-- `check_quick::quick_operations::check_operations` meets its contract.
use Prim.Native.Nat.{ℕ}
use mathlib.Core.Path.{sym, ap, ◌∙◌}
use mathlib.Core.Bool.{Bool, false}
use mathlib.Core.List.{[]}
use native.Mathlib.Omega.{arith}
use lib.Seq.{length-take-le}
use Rattle.spec_checks.specs.Target.{MutationTarget}
use Rattle.projection_patch.specs.Meaning.{edition_of}
use Rattle.check_quick.specs.Anchors.{anchored}
use Rattle.check_quick.proofs.QuickRuns.{quick_left_answer}
use borrow.Author.Rules.{rules}
use Rattle.check_quick.proofs.quick_operations.check_operations.Goals as goal
use Rattle.check_quick.proofs.quick_operations.check_operations.Goals.{Start}

abbrev known : Start → MutationTarget → Bool
known c = anchored c.args.nodes.now c.args.bindings.now c.args.collections.now

pub returns-then-count-eq1 : goal.returns-then-count-eq1
returns-then-count-eq1 c =
    c.check_one.ensures ∙ sym (ap (λ (n : ℕ). quick_left_answer (edition_of c.args.edition) (known (goal.at.returns-then-count-eq1 c).Start) c.args.set.now c.args.from n false []) c.if-count-eq1.true)

pub overflow_mul-used : goal.overflow_mul-used
overflow_mul-used c = omega arith

pub slice_bounds-tallied-end : goal.slice_bounds-tallied-end
slice_bounds-tallied-end c = sym (length-take-le _ _ (omega arith))

pub returns-then-count-le-FEW : goal.returns-then-count-le-FEW
returns-then-count-le-FEW c =
    c.tallied.ensures ∙ c.check_with-run.ensures (known (goal.at.returns-then-count-le-FEW c).Start)

pub slice_bounds-tallied-end-2 : goal.slice_bounds-tallied-end-2
slice_bounds-tallied-end-2 c = sym (length-take-le _ _ (omega arith))

pub returns : goal.returns
returns c =
    c.tallied-2.ensures ∙ c.check_with-run-2.ensures (known (goal.at.returns c).Start)
