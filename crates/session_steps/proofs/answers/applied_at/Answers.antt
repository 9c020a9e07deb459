-- `applied_at` meets its contract.
use Rattle.session_lifecycle.specs.Meaning.{cursor_of}
use Rattle.session_steps.specs.Answers.{disposition_told}
use borrow.Author.Rules.{rules}
use Rattle.session_steps.proofs.answers.applied_at.Goals as goal

pub returns : goal.returns
unfolding disposition_told cursor_of
returns c = rw c.no_diagnostics.ensures
