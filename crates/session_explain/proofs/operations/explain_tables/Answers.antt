-- `session_explain::operations::explain_tables` meets its contract: the search gives the reason.
use mathlib.Core.Path.{sym, ap, ◌∙◌}
use Rattle.session_explain.specs.Reasons.{operations_to}
use Rattle.session_explain.specs.StepsLaws.{operations_are}
use Rattle.std.specs.Prelude.{Ok}
use Rattle.session_explain.proofs.operations.explain_tables.Goals as goal

pub returns-in-Ok-Some : goal.returns-in-Ok-Some
returns-in-Ok-Some c =
    λ p ps st r. sym (ap operations_to (c.in-Ok-Some.is ∙ ap Ok c.in-Ok-Some.field-0-is)) ∙ ap operations_to (c.first_refused.ensures p ps st r) ∙ operations_are _

pub returns-in-Ok-None : goal.returns-in-Ok-None
returns-in-Ok-None c = λ p ps st r. sym (ap operations_to (c.in-Ok-None.is ∙ ap Ok c.in-Ok-None.field-0-is)) ∙ ap operations_to (c.first_refused.ensures p ps st r) ∙ operations_are _

pub returns-in-Err : goal.returns-in-Err
returns-in-Err c = λ p ps st r. sym (ap operations_to c.in-Err.is) ∙ ap operations_to (c.first_refused.ensures p ps st r) ∙ operations_are _
