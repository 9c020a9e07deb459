-- `session_explain::targets::target_known` meets its contract: none is counted as absent.
use Prim.Native.Nat.{ℕ}
use mathlib.Core.Path.{ap, ◌∙◌}
use lib.Dec.{eqb}
use Rattle.spec_checks.specs.Target.{MutationTarget}
use Rattle.check_quick.specs.Anchors.{anchored, absent_one}
use Rattle.projection_patch.specs.Meaning.{operation_of}
use Rattle.session_explain.specs.UnknownLaws.{known_is}
use borrow.Author.Rules.{rules}
use Rattle.session_explain.proofs.targets.target_known.Goals as goal

pub returns : goal.returns
returns c =
    λ k texts lent.
    ap (λ (n : ℕ). eqb n 0) c.one_if_absent.ensures
    ∙ ap (λ (t : MutationTarget). eqb (absent_one (anchored c.args.nodes.now c.args.bindings.now c.args.collections.now) t) 0) (c.mutation_target-target.ensures texts)
    ∙ known_is k c.args.nodes.now c.args.bindings.now c.args.collections.now lent (operation_of texts c.args.operation)
