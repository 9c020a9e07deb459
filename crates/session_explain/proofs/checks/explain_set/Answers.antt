-- `session_explain::checks::explain_set` meets its contract, by what the pass over the set found.
use mathlib.Core.Path.{ap, ◌∙◌}
use Rattle.std.specs.Prelude.{Ok}
use Rattle.session_explain.specs.StepsLaws.{set_unread, set_found, set_clean}
use borrow.Author.Rules.{rules}
use Rattle.session_explain.proofs.checks.explain_set.Goals as goal

pub returns-in_default : goal.returns-in_default
returns-in_default c = λ k lent. c.explain_check.ensures ∙ set_unread _ _ _ _ _ k lent _ _ _ _ c.inspect_set-inspected.ensures c.in_default.is

pub returns-in-Found : goal.returns-in-Found
returns-in-Found c = λ k lent. set_found _ _ _ _ _ k lent _ _ _ _ c.inspect_set-inspected.ensures (c.in-Ok.is ∙ ap Ok c.in-Found.is) _ c.explain_findings.ensures

pub returns-in-Clean : goal.returns-in-Clean
returns-in-Clean c = λ k lent. set_clean _ _ _ _ _ k lent _ _ _ _ c.inspect_set-inspected.ensures (c.in-Ok.is ∙ ap Ok c.in-Clean.is) _ (λ ps r. c.explain_clean.ensures k ps lent r)
