-- `script_answers::session::print_batch` meets its contract: the letter, the outcome, and the cursor.
use mathlib.Core.Path.{ap}
use mathlib.Core.List.{[], ◌∷◌}
use borrow.Author.Rules.{rules}
use Rattle.spec_session.specs.Lifecycle.{Disposition}
use Rattle.spec_listing.specs.Listing.{fields}
use Rattle.spec_replay.specs.Answers.{cursor_field, session_fields, batch_line}
use Rattle.bytes_printer.proofs.PrintsLaws.{◌⨾◌, prints_same}
use Rattle.session_lifecycle.specs.Meaning.{disposition_means, diagnostics_mean, cursor_of}
use Rattle.script_answers.specs.OpenFieldsLaws.{line}
use Rattle.script_answers.proofs.session.print_batch.Goals as goal

pub returns : goal.returns
unfolding batch_line fields session_fields
returns c =
    let diagnostics = diagnostics_mean c.args.res.diagnostics in
    let more = cursor_field (cursor_of c.args.res.replay_cursor) ∷ [] in
    let first = session_fields (disposition_means c.transition_disposition-disposition.result) diagnostics [] in
    prints_same (ap (λ (d : Disposition). 82 ∷ fields (session_fields d diagnostics more)) c.transition_disposition-disposition.ensures)
    (c.print_byte-letter.ensures ⨾ line first more c.print_outcome-outcome.ensures (c.print_cursor-place.ensures ⨾ c.print_newline.ensures))
