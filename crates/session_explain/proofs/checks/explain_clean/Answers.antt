-- `session_explain::checks::explain_clean` meets its contract: the first of three reasons.
use Rattle.std.proofs.lemmas.Result.{err_from_is_err_and}
use Rattle.session_explain.specs.StepsLaws.{clean_counts, clean_targets, clean_taken}
use Rattle.session_explain.proofs.checks.explain_clean.Goals as goal

pub returns-in_err-explain_counts : goal.returns-in_err-explain_counts
returns-in_err-explain_counts c =
    λ k ps lent r.
    let p = err_from_is_err_and c.from_residual.result c.from_residual.ensures.1 in
    rw (p.1, p.2) (clean_counts k _ _ _ _ _ _ _ ps c.explain_counts.ensures c.in_err-explain_counts.was)

pub returns-in_err-explain_targets : goal.returns-in_err-explain_targets
returns-in_err-explain_targets c =
    λ k ps lent r.
    let p = err_from_is_err_and c.from_residual-in_err-explain_targets.result c.from_residual-in_err-explain_targets.ensures.1 in
    rw (p.1, p.2) (clean_targets k _ _ _ _ _ _ _ ps c.explain_counts.ensures c.in_ok-explain_counts.was (c.explain_targets.ensures k ps lent r) c.in_err-explain_targets.was)

pub returns : goal.returns
returns c = λ k ps lent r. clean_taken k _ _ _ _ _ _ _ ps c.explain_counts.ensures c.in_ok-explain_counts.was (c.explain_targets.ensures k ps lent r) c.in_ok-explain_targets.was c.explain_cursor.ensures
