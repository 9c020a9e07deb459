-- `script_calls::reasons::print_explained` meets its contract: the line tells the explanation that the session gives.
use mathlib.Core.Path.{ap, ◌∙◌}
use Rattle.spec_explain.specs.Explain.{Explanation}
use Rattle.spec_replay.specs.Reasons.{reason_line}
use Rattle.bytes_printer.proofs.PrintsLaws.{prints_same}
use Rattle.session_explain.specs.Meaning.{explanation_of}
use Rattle.session_explain.specs.MeaningLaws.{explanation_back}
use borrow.Author.Rules.{rules}
use Rattle.script_calls.proofs.reasons.print_explained.Goals as goal

pub returns : goal.returns
returns c =
    λ m h. prints_same (ap (λ x. reason_line (explanation_of x)) (c.explain_batch-explanation.ensures m h) ∙ ap reason_line (explanation_back _)) c.print_reason.ensures
