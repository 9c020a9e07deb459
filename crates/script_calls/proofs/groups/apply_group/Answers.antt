-- `script_calls::groups::apply_group` meets its contract: the session there is answers, and its next one takes its place.
use mathlib.Core.Path.{refl, ap}
use Rattle.spec_replay.specs.Replay.{grouped}
use Rattle.spec_replay.specs.Answers.{group_lines}
use Rattle.bytes_printer.proofs.PrintsLaws.{prints_same}
use Rattle.script_calls.specs.ReplayHoldsLaws.{asked_there, asked_nowhere, step_goes_on, holds_latest}
use borrow.Author.Rules.{rules}
use Rattle.script_calls.proofs.groups.apply_group.Goals as goal

pub returns-then-state : goal.returns-then-state
unfolding grouped
returns-then-state c =
    λ m h bs names. asked_there c.args.state m h _ _ _ _ c.if-state.true (λ x held.
    let got = c.apply_projection_patch_batches-step.ensures.holding.became x held bs names in
    step_goes_on refl (rw c.with_latest-next.ensures (holds_latest c.args.state m h _ _ c.if-state.true got.next)) (prints_same (ap group_lines got.answer) c.print_group-printed.ensures))

pub returns : goal.returns
returns c = λ m h bs names. asked_nowhere c.args.state m h _ _ _ _ c.if-state.false (c.no_session.ensures m h)
