-- `concluded` meets its contract: each outcome has its answer.
use mathlib.Core.Path.{sym, ap, ◌∙◌}
use Rattle.session_lifecycle.specs.Meaning.{cursor_of}
use Rattle.session_steps.specs.Answers.{rejected_at, change_answer}
use Rattle.std.specs.Prelude.{Err}
use borrow.Author.Rules.{rules}
use Rattle.session_steps.proofs.answers.concluded.Goals as goal

pub returns-in-Ok : goal.returns-in-Ok
unfolding change_answer
returns-in-Ok c =
    c.applied_at.ensures ∙ sym (ap (change_answer c.args.cap (cursor_of c.args.cursor) c.args.number) c.in-Ok.is)

pub returns-in-Operation : goal.returns-in-Operation
unfolding change_answer
returns-in-Operation c =
    c.rejected.ensures
    ∙ ap (λ f. rejected_at c.args.cap f 1 (cursor_of c.args.cursor)) c.refusal_of.ensures
    ∙ sym (ap (change_answer c.args.cap (cursor_of c.args.cursor) c.args.number) (c.in-Err.is ∙ ap Err c.in-Operation.is))

pub returns-in-Unreadable : goal.returns-in-Unreadable
unfolding change_answer
returns-in-Unreadable c =
    c.rejected-in-Unreadable.ensures ∙ sym (ap (change_answer c.args.cap (cursor_of c.args.cursor) c.args.number) (c.in-Err.is ∙ ap Err c.in-Unreadable.is))

pub returns-in-BadTables : goal.returns-in-BadTables
unfolding change_answer
returns-in-BadTables c =
    c.rejected-in-BadTables.ensures ∙ sym (ap (change_answer c.args.cap (cursor_of c.args.cursor) c.args.number) (c.in-Err.is ∙ ap Err c.in-BadTables.is))
