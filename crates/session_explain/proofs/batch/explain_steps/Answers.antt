-- `session_explain::batch::explain_steps` meets its contract: the reason of the checks, or else that of the operations.
use Rattle.std.proofs.lemmas.Result.{err_from_is_err_and}
use Rattle.shell_player.specs.CommitLaws.{struct_seen}
use Rattle.session_explain.specs.BatchLaws.{checks_explain, operations_explain}
use Rattle.session_explain.proofs.batch.explain_steps.Goals as goal

pub returns-in_err-explain_session : goal.returns-in_err-explain_session
returns-in_err-explain_session c =
    λ m h.
    let p = err_from_is_err_and c.from_residual.result c.from_residual.ensures.1 in
    rw (p.1, p.2) (checks_explain _ m _ _ _ (struct_seen _ m h) c.explain_session.ensures c.in_err-explain_session.was)

pub returns : goal.returns
returns c = λ m h. operations_explain _ m _ _ _ (struct_seen _ m h) c.explain_session.ensures c.in_ok-explain_session.was (λ ps r. c.explain_operations.ensures m.projection ps h.projection.tables r)
