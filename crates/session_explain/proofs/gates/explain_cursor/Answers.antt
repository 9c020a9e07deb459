-- `session_explain::gates::explain_cursor` meets its contract: the gate passes, or the cursor takes another number.
use Rattle.session_explain.specs.StepsLaws.{replay_passed, replay_refused}
use borrow.Author.Rules.{rules}
use Rattle.session_explain.proofs.gates.explain_cursor.Goals as goal

pub returns-in-Ok : goal.returns-in-Ok
returns-in-Ok c = replay_passed _ _ _ c.evaluate_replay_compatibility.ensures c.in-Ok.is

pub returns-in-Err : goal.returns-in-Err
returns-in-Err c = replay_refused _ _ _ c.evaluate_replay_compatibility.ensures c.in-Err.is _ c.number_after.ensures
