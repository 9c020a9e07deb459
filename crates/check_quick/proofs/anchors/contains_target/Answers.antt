-- `contains_target` meets its contract: the anchors of the target's kind are asked.
use Rattle.std.proofs.Common.{◌≡◌, ◌∙◌, arith}
use borrow.Author.Tests.{ne_eqb}
use Rattle.check_quick.specs.Anchors.{anchored}
use Rattle.check_quick.proofs.anchors.contains_target.Goals as goal

pub returns-in-1 : goal.returns-in-1
unfolding anchored
returns-in-1 c = c.contains_binding.ensures ∙ rw c.in-1.is

pub returns-in-2 : goal.returns-in-2
unfolding anchored
returns-in-2 c = c.contains_id.ensures ∙ rw c.in-2.is

pub returns-in_default : goal.returns-in_default
unfolding anchored
returns-in_default c =
    c.contains_id-in_default.ensures ∙ rw (ne_eqb c.args.target.kind 1 (λ (e : c.args.target.kind ≡ 1). omega arith), ne_eqb c.args.target.kind 2 (λ (e : c.args.target.kind ≡ 2). omega arith))
