-- `script_answers::session::print_lifecycle` meets its contract: the letter, the outcome, and three fields more.
use mathlib.Core.List.{[], ◌∷◌}
use borrow.Author.Rules.{rules}
use Rattle.spec_decimal.specs.Decimal.{decimal}
use Rattle.spec_listing.specs.Listing.{fields}
use Rattle.spec_replay.specs.Answers.{lifecycle_field, cursor_field, session_fields, lifecycle_line}
use Rattle.bytes_printer.proofs.PrintsLaws.{◌⨾◌}
use Rattle.session_lifecycle.specs.Meaning.{disposition_means, diagnostics_mean, lifecycle_of, cursor_of}
use Rattle.script_answers.specs.OpenFieldsLaws.{line}
use Rattle.script_answers.proofs.session.print_lifecycle.Goals as goal

pub returns : goal.returns
unfolding lifecycle_line fields session_fields
returns c =
    let first = session_fields (disposition_means c.args.res.disposition) (diagnostics_mean c.args.res.diagnostics) [] in
    let more = lifecycle_field (lifecycle_of c.args.res.state.lifecycle) ∷ cursor_field (cursor_of c.args.res.state.replay_cursor) ∷ decimal c.args.res.stimulus_bytes ∷ [] in
    c.print_byte-letter.ensures
    ⨾ line first more c.print_outcome-outcome.ensures (c.print_lifecycle-word.ensures ⨾ c.print_cursor-place.ensures ⨾ c.print_field_u64-bytes.ensures ⨾ c.print_newline.ensures)
