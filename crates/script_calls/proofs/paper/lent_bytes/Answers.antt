-- `script_calls::paper::lent_bytes` meets its contract: the lesser of both.
use native.Mathlib.Omega.{arith}
use borrow.Author.Rules.{rules}
use Rattle.script_calls.proofs.paper.lent_bytes.Goals as goal

pub returns-then-room : goal.returns-then-room
returns-then-room c = (omega arith, omega arith)

pub returns : goal.returns
returns c = (omega arith, omega arith)
