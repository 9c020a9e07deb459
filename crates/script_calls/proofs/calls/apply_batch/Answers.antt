-- `script_calls::calls::apply_batch` meets its contract: the session there is answers, and its next one takes its place.
use mathlib.Core.Path.{refl, ap}
use Rattle.spec_replay.specs.Replay.{batched}
use Rattle.spec_replay.specs.Answers.{batch_line}
use Rattle.bytes_printer.proofs.PrintsLaws.{prints_same}
use Rattle.script_calls.specs.ReplayHoldsLaws.{asked_there, asked_nowhere, step_goes_on, holds_latest, in_edition}
use borrow.Author.Rules.{rules}
use Rattle.script_calls.proofs.calls.apply_batch.Goals as goal

pub returns-then-state : goal.returns-then-state
unfolding batched
returns-then-state c =
    λ m h. asked_there c.args.state m h _ _ _ _ c.if-state.true (λ x held.
    let got = c.apply_projection_patch_batch-step.ensures.holding.became x held in
    in_edition m c.args.state.edition h.edition_is x _ _ _ (step_goes_on refl (rw c.with_latest-next.ensures (holds_latest c.args.state m h _ _ c.if-state.true got.next)) (prints_same (ap batch_line got.answer) c.print_batch-printed.ensures)))

pub returns : goal.returns
returns c = λ m h. asked_nowhere c.args.state m h _ _ _ _ c.if-state.false (c.no_session.ensures m h)
