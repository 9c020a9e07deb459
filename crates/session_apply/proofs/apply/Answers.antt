-- `apply` meets its contract: the session that is left behind the reference is the step's, stored or not.
use Rattle.std.proofs.Common.{sym, ◌∙◌}
use Rattle.session_apply.specs.Applied.{Stepped}
use Rattle.session_apply.proofs.AppliedLaws.{in_place_next, in_place_unstored}
use Rattle.session_apply.proofs.apply.Goals as goal
use Rattle.session_apply.proofs.apply.Goals.{After-transition-step}

-- the step by value
stepped : (c : After-transition-step) → Stepped c.args.session.now c.args.input c.transition-step.result
stepped c = (c.transition-step.ensures.whatever, (c.transition-step.ensures.holding, c.transition-step.ensures.answered))

pub returns-then-is_applied : goal.returns-then-is_applied
returns-then-is_applied c =
    in_place_next c.args.session.now c.args.input c.transition-step.result (stepped (goal.at.returns-then-is_applied c).After-transition-step)

pub returns-else-is_applied : goal.returns-else-is_applied
returns-else-is_applied c =
    in_place_unstored c.args.session.now c.args.input c.transition-step.result (stepped (goal.at.returns-else-is_applied c).After-transition-step) (sym c.is_applied.ensures ∙ c.if-is_applied.false)
