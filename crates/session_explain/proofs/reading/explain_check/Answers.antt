-- `session_explain::reading::explain_check` meets its contract: the search through the fields gives the reason.
use Rattle.std.proofs.Common.{sym, ap, ◌∙◌}
use Rattle.std.proofs.lemmas.Result.{err_from_is_err_and}
use Rattle.spec_explain.specs.CallReasons.{explain_check}
use Rattle.session_explain.specs.Reasons.{located_to}
use Rattle.session_explain.specs.StepsLaws.{located_is}
use Rattle.session_explain.proofs.reading.explain_check.Goals as goal

pub returns-in_err-locate_set : goal.returns-in_err-locate_set
unfolding explain_check
returns-in_err-locate_set c =
    let p = err_from_is_err_and c.from_residual.result c.from_residual.ensures.1 in
    rw (p.1, p.2) (sym (ap located_to c.in_err-locate_set.was) ∙ ap located_to c.locate_set.ensures ∙ located_is _ _)

pub returns : goal.returns
unfolding explain_check
returns c = sym (ap located_to c.in_ok-locate_set.was) ∙ ap located_to c.locate_set.ensures ∙ located_is _ _
