-- `script_calls::reasons::explain_batch` meets its contract: the session there is explains in the edition in force, and stays.
use mathlib.Core.Path.{refl, ap}
use Rattle.spec_patch.specs.Edition.{Edition}
use Rattle.spec_explain.specs.Explain.{explain}
use Rattle.spec_replay.specs.Reasons.{reason_line}
use Rattle.bytes_printer.proofs.PrintsLaws.{prints_same}
use Rattle.session_gates.specs.Gates.{batch_envelope_of}
use Rattle.script_calls.specs.ReplayHoldsLaws.{asked_there, asked_nowhere, step_goes_on}
use borrow.Author.Rules.{rules}
use Rattle.script_calls.proofs.reasons.explain_batch.Goals as goal

pub returns-then-state : goal.returns-then-state
returns-then-state c =
    λ m h. asked_there c.args.state m h _ _ _ _ c.if-state.true (λ x held.
    step_goes_on refl h (prints_same (ap (λ (ed : Edition). reason_line (explain ed x (batch_envelope_of c.args.envelope) c.args.references c.args.set.now)) h.edition_is) (c.print_explained-printed.ensures x held)))

pub returns : goal.returns
returns c = λ m h. asked_nowhere c.args.state m h _ _ _ _ c.if-state.false (c.no_session.ensures m h)
