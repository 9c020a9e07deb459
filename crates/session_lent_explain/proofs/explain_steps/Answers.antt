-- `session_lent_explain::explain_steps` meets its contract: the reason of the checks, or else that of the operations.
use Rattle.std.proofs.lemmas.Result.{err_from_is_err_and}
use Rattle.session_lent_explain.specs.LentExplainLaws.{shaped_checks, shaped_operations}
use Rattle.session_lent_explain.proofs.explain_steps.Goals as goal

pub returns-in_err-explain_checks : goal.returns-in_err-explain_checks
returns-in_err-explain_checks c =
    λ m h.
    let p = err_from_is_err_and c.from_residual.result c.from_residual.ensures.1 in
    rw (p.1, p.2) (shaped_checks _ _ _ _ _ _ _ _ _ _ _ c.limits_in-limits.result c.state_in-state.result c.limits_in-limits.ensures c.state_in-state.ensures m h c.explain_checks.ensures c.in_err-explain_checks.was)

pub returns : goal.returns
returns c = λ m h.
    shaped_operations _ _ _ _ _ _ _ _ _ _ _ c.limits_in-limits.result c.state_in-state.result c.limits_in-limits.ensures c.state_in-state.ensures m h c.explain_checks.ensures c.in_ok-explain_checks.was c.counts_in-counts.ensures c.explain_tables.ensures
