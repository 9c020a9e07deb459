-- `next_state` meets its contract, case by case.
use mathlib.Core.Path.{sym, ap}
use Rattle.session_lifecycle.specs.declared.lifecycle.ShellTransitionDisposition.{ShellTransitionDisposition}
use borrow.Author.Rules.{rules}
use Rattle.session_steps.specs.States.{next_state}
use Rattle.session_steps.proofs.states.next_state.Goals as goal

pub returns-in-Applied : goal.returns-in-Applied
unfolding next_state
returns-in-Applied c = sym (ap (λ (d : ShellTransitionDisposition). next_state c.args.state d c.args.res.state) c.in-Applied.is)

pub returns-in-NoChange : goal.returns-in-NoChange
unfolding next_state
returns-in-NoChange c = sym (ap (λ (d : ShellTransitionDisposition). next_state c.args.state d c.args.res.state) c.in-NoChange.is)

pub returns-in-Rejected : goal.returns-in-Rejected
unfolding next_state
returns-in-Rejected c = sym (ap (λ (d : ShellTransitionDisposition). next_state c.args.state d c.args.res.state) c.in-Rejected.is)
