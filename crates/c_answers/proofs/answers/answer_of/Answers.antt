-- `answer_of` meets its contract: one number after the other.
use borrow.Author.Rules.{rules}
use Rattle.c_answers.proofs.answers.answer_of.Goals as goal

pub returns : goal.returns
returns c =
    λ i. record { disposition = c.disposition_number.ensures i; number = c.args.res.diagnostics.stable_code; stage = c.args.res.diagnostics.evaluation_stage; logical = c.args.res.diagnostics.logical_diagnostic_count; emitted = c.args.res.diagnostics.emitted_diagnostic_count; has_cursor = c.cursor_kind.ensures i; cursor = c.cursor_number.ensures i }
