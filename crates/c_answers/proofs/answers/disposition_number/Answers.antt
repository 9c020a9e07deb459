-- `disposition_number` meets its contract.
use Rattle.session_steps.specs.Answers.{disposition_told}
use borrow.Author.Rules.{rules}
use Rattle.c_answers.proofs.answers.disposition_number.Goals as goal

pub returns-in-Applied : goal.returns-in-Applied
unfolding disposition_told
returns-in-Applied c = rw c.in-Applied.is

pub returns-in-NoChange : goal.returns-in-NoChange
unfolding disposition_told
returns-in-NoChange c = rw c.in-NoChange.is

pub returns-in-Rejected : goal.returns-in-Rejected
unfolding disposition_told
returns-in-Rejected c = rw c.in-Rejected.is
