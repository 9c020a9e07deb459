-- `session_explain::checks::explain_targets` meets its contract: the search gives the reason.
use mathlib.Core.Path.{sym, ap, ◌∙◌}
use Rattle.session_explain.specs.Reasons.{targets_to}
use Rattle.session_explain.specs.StepsLaws.{targets_are}
use Rattle.std.specs.Prelude.{Ok}
use Rattle.session_explain.proofs.checks.explain_targets.Goals as goal

pub returns-in-Ok-Some : goal.returns-in-Ok-Some
returns-in-Ok-Some c =
    λ k ps lent r. sym (ap (targets_to _) (c.in-Ok-Some.is ∙ ap Ok c.in-Ok-Some.field-0-is)) ∙ ap (targets_to _) (c.first_unknown.ensures k ps lent r) ∙ targets_are _ _

pub returns-in-Ok-None : goal.returns-in-Ok-None
returns-in-Ok-None c = λ k ps lent r. sym (ap (targets_to _) (c.in-Ok-None.is ∙ ap Ok c.in-Ok-None.field-0-is)) ∙ ap (targets_to _) (c.first_unknown.ensures k ps lent r) ∙ targets_are _ _

pub returns-in-Err : goal.returns-in-Err
returns-in-Err c = λ k ps lent r. sym (ap (targets_to _) c.in-Err.is) ∙ ap (targets_to _) (c.first_unknown.ensures k ps lent r) ∙ targets_are _ _
