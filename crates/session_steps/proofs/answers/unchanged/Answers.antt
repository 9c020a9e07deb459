-- `unchanged` meets its contract.
use Rattle.session_steps.specs.Answers.{disposition_told}
use borrow.Author.Rules.{rules}
use Rattle.session_steps.proofs.answers.unchanged.Goals as goal

pub returns : goal.returns
unfolding disposition_told
returns c = rw c.no_diagnostics.ensures
