-- `session_explain::checks::explain_checks` meets its contract: the preflight's reason, or else that of the set.
use Rattle.std.proofs.lemmas.Result.{err_from_is_err_and}
use Rattle.session_explain.specs.StepsLaws.{checks_because, checks_fine}
use Rattle.session_explain.proofs.checks.explain_checks.Goals as goal

pub returns-in_err-explain_preflight : goal.returns-in_err-explain_preflight
returns-in_err-explain_preflight c =
    λ k lent.
    let p = err_from_is_err_and c.from_residual.result c.from_residual.ensures.1 in
    rw (p.1, p.2) (checks_because _ _ _ _ _ k _ _ _ c.explain_preflight.ensures c.in_err-explain_preflight.was)

pub returns : goal.returns
returns c = λ k lent. checks_fine _ _ _ _ _ k _ _ _ c.explain_preflight.ensures c.in_ok-explain_preflight.was (c.explain_set.ensures k lent)
