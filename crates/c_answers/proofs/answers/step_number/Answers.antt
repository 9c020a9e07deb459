-- `step_number` meets its contract.
use Rattle.session_lifecycle.specs.Meaning.{disposition_means}
use borrow.Author.Rules.{rules}
use Rattle.c_answers.proofs.answers.step_number.Goals as goal

pub returns-in-Applied : goal.returns-in-Applied
unfolding disposition_means
returns-in-Applied c = rw c.in-Applied.is

pub returns-in-NoChange : goal.returns-in-NoChange
unfolding disposition_means
returns-in-NoChange c = rw c.in-NoChange.is

pub returns-in-Rejected : goal.returns-in-Rejected
unfolding disposition_means
returns-in-Rejected c = rw c.in-Rejected.is
