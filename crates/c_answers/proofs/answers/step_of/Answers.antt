-- `step_of` meets its contract: one number after the other.
use borrow.Author.Rules.{rules}
use Rattle.c_answers.proofs.answers.step_of.Goals as goal

pub returns : goal.returns
returns c =
    λ i. record { disposition = c.step_number.ensures i; number = c.args.res.diagnostics.stable_code; stage = c.args.res.diagnostics.evaluation_stage; logical = c.args.res.diagnostics.logical_diagnostic_count; emitted = c.args.res.diagnostics.emitted_diagnostic_count; lifecycle = c.lifecycle_number.ensures i; has_cursor = c.cursor_kind.ensures i; cursor = c.cursor_number.ensures i; stimulus_bytes = c.args.res.stimulus_bytes }
