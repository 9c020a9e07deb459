-- `session_explain::listing::explain_listing` meets its contract: the first of three reasons.
use Rattle.std.proofs.lemmas.Result.{err_from_is_err_and}
use Rattle.spec_projection.specs.Projection.{empty}
use Rattle.session_explain.specs.ListingLaws.{listing_unread, listing_found, listing_applied}
use Rattle.session_explain.proofs.listing.explain_listing.Goals as goal

pub returns-in_err-explain_check : goal.returns-in_err-explain_check
returns-in_err-explain_check c =
    let p = err_from_is_err_and c.from_residual.result c.from_residual.ensures.1 in
    rw (p.1, p.2) (listing_unread _ _ c.explain_check.ensures c.in_err-explain_check.was)

pub returns-in_err-explain_findings : goal.returns-in_err-explain_findings
returns-in_err-explain_findings c =
    let p = err_from_is_err_and c.from_residual-in_err-explain_findings.result c.from_residual-in_err-explain_findings.ensures.1 in
    rw (p.1, p.2) (listing_found _ _ c.explain_check.ensures c.in_ok-explain_check.was c.explain_findings.ensures c.in_err-explain_findings.was)

pub returns : goal.returns
returns c =
    listing_applied _ _ c.explain_check.ensures c.in_ok-explain_check.was c.explain_findings.ensures c.in_ok-explain_findings.was (λ ps r. c.explain_operations.ensures empty ps c.empty.ensures.tables r)
