-- `is_rejected` meets its contract.
use borrow.Author.Rules.{rules}
use Rattle.spec_splitting.specs.Splitting.{is_rejected}
use Rattle.session_steps.specs.Answers.{disposition_told}
use Rattle.session_group.proofs.is_rejected.Goals as goal

pub returns-in-Applied : goal.returns-in-Applied
unfolding is_rejected disposition_told
returns-in-Applied c = search rules

pub returns-in-NoChange : goal.returns-in-NoChange
unfolding is_rejected disposition_told
returns-in-NoChange c = search rules

pub returns-in-Rejected : goal.returns-in-Rejected
unfolding is_rejected disposition_told
returns-in-Rejected c = search rules
