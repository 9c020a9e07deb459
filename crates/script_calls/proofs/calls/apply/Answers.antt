-- `script_calls::calls::apply` meets its contract: the session there is answers, and its next one takes its place.
use mathlib.Core.Path.{refl, ap}
use Rattle.spec_replay.specs.Replay.{applied}
use Rattle.spec_replay.specs.Answers.{lifecycle_line}
use Rattle.bytes_printer.proofs.PrintsLaws.{prints_same}
use Rattle.script_calls.specs.ReplayHoldsLaws.{asked_there, asked_nowhere, step_goes_on, holds_latest}
use borrow.Author.Rules.{rules}
use Rattle.script_calls.proofs.calls.apply.Goals as goal

pub returns-then-state : goal.returns-then-state
unfolding applied
returns-then-state c =
    λ m h. asked_there c.args.state m h _ _ _ _ c.if-state.true (λ x held.
    let got = c.applied_once-step.ensures.1.0 x held in
    step_goes_on refl (rw c.with_latest-next.ensures (holds_latest c.args.state m h _ _ c.if-state.true got.1)) (prints_same (ap lifecycle_line got.0) c.print_lifecycle-printed.ensures))

pub returns : goal.returns
returns c = λ m h. asked_nowhere c.args.state m h _ _ _ _ c.if-state.false (c.no_session.ensures m h)
