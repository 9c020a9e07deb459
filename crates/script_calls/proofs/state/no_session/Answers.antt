-- `script_calls::state::no_session` meets its contract: the state stays.
use mathlib.Core.Path.{refl}
use Rattle.script_calls.specs.ReplayHoldsLaws.{step_goes_on}
use borrow.Author.Rules.{rules}
use Rattle.script_calls.proofs.state.no_session.Goals as goal

pub returns : goal.returns
returns c = λ m h. step_goes_on refl h c.print_no_session-printed.ensures
