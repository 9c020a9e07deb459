-- `script_answers::session::transition_disposition` meets its contract: each disposition by itself.
use mathlib.Core.Path.{sym, ap}
use borrow.Author.Rules.{rules}
use Rattle.session_lifecycle.specs.Meaning.{disposition_means}
use Rattle.session_steps.specs.Answers.{disposition_told}
use Rattle.script_answers.proofs.session.transition_disposition.Goals as goal

pub returns-in-Applied : goal.returns-in-Applied
unfolding disposition_means disposition_told
returns-in-Applied c = sym (ap disposition_told c.in-Applied.is)

pub returns-in-NoChange : goal.returns-in-NoChange
unfolding disposition_means disposition_told
returns-in-NoChange c = sym (ap disposition_told c.in-NoChange.is)

pub returns-in-Rejected : goal.returns-in-Rejected
unfolding disposition_means disposition_told
returns-in-Rejected c = sym (ap disposition_told c.in-Rejected.is)
