-- `session_explain::reasons::under_cap` meets its contract, case by case.
use borrow.Author.Tests.{ne_eqb}
use borrow.Author.Rules.{rules}
use Rattle.session_explain.proofs.reasons.under_cap.Goals as goal

pub returns-then-cap-eq0 : goal.returns-then-cap-eq0
returns-then-cap-eq0 c = rw (c.in-Err.is, c.if-cap-eq0.true)

pub returns-else-cap-eq0 : goal.returns-else-cap-eq0
returns-else-cap-eq0 c = rw (c.in-Err.is, ne_eqb _ _ c.if-cap-eq0.false)
