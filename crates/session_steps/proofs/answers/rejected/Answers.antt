-- `rejected` meets its contract.
use Rattle.session_steps.specs.Answers.{disposition_told}
use borrow.Author.Rules.{rules}
use Rattle.session_steps.proofs.answers.rejected.Goals as goal

pub returns : goal.returns
unfolding disposition_told
returns c = rw c.apply_diagnostic_cap.ensures
