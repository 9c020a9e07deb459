-- `script_calls::views::collection_length` meets its contract: the session there is is looked into, and stays.
use mathlib.Core.Path.{refl, ap}
use Rattle.bytes_printer.proofs.PrintsLaws.{prints_same}
use Rattle.spec_replay.specs.Answers.{length_line}
use Rattle.script_calls.specs.ReplayHoldsLaws.{asked_there, asked_nowhere, step_goes_on}
use borrow.Author.Rules.{rules}
use Rattle.script_calls.proofs.views.collection_length.Goals as goal

pub returns-then-state : goal.returns-then-state
unfolding length_line
returns-then-state c =
    λ m h. asked_there c.args.state m h _ _ _ _ c.if-state.true (λ x held. step_goes_on refl h (prints_same (ap length_line (c.collection_length-length.ensures x held)) c.print_number_line-printed.ensures))

pub returns : goal.returns
returns c = λ m h. asked_nowhere c.args.state m h _ _ _ _ c.if-state.false (c.no_session.ensures m h)
