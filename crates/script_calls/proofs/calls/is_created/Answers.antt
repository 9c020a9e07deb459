-- `script_calls::calls::is_created` meets its contract.
use Rattle.script_calls.specs.ReplayHolds.{is_created}
use borrow.Author.Rules.{rules}
use Rattle.script_calls.proofs.calls.is_created.Goals as goal

pub returns-in-Ok : goal.returns-in-Ok
unfolding is_created
returns-in-Ok c = rw c.in-Ok.is

pub returns-in-Err : goal.returns-in-Err
unfolding is_created
returns-in-Err c = rw c.in-Err.is
