-- `script_calls::views::show` meets its contract: the session there is is looked into, and stays.
use mathlib.Core.Path.{refl}
use Rattle.script_calls.specs.ReplayHoldsLaws.{asked_there, asked_nowhere, step_goes_on}
use borrow.Author.Rules.{rules}
use Rattle.script_calls.proofs.views.show.Goals as goal

pub returns-then-state : goal.returns-then-state
returns-then-state c = λ m h. asked_there c.args.state m h _ _ _ _ c.if-state.true (λ x held. step_goes_on refl h (c.print_projection-printed.ensures x.projection held.projection))

pub returns : goal.returns
returns c = λ m h. asked_nowhere c.args.state m h _ _ _ _ c.if-state.false (c.no_session.ensures m h)
