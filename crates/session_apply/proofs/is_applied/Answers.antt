-- `is_applied` meets its contract.
use Rattle.std.proofs.Common.{sym, ap}
use Rattle.session_apply.specs.Applied.{is_applied}
use Rattle.session_apply.proofs.is_applied.Goals as goal

pub returns-in-Applied : goal.returns-in-Applied
unfolding is_applied
returns-in-Applied c = sym (ap is_applied c.in-Applied.is)

pub returns-in-NoChange : goal.returns-in-NoChange
unfolding is_applied
returns-in-NoChange c = sym (ap is_applied c.in-NoChange.is)

pub returns-in-Rejected : goal.returns-in-Rejected
unfolding is_applied
returns-in-Rejected c = sym (ap is_applied c.in-Rejected.is)
