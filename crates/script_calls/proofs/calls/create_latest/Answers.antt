-- `script_calls::calls::create_latest` meets its contract: the answer is printed, and the session takes its place.
use Rattle.script_answers.specs.CreationAnswers.{creation_told}
use Rattle.script_calls.specs.ReplayHoldsLaws.{created_step}
use borrow.Author.Rules.{rules}
use Rattle.script_calls.proofs.calls.create_latest.Goals as goal

pub returns : goal.returns
returns c =
    λ m h. let creates = c.create_session-creation.ensures m.setup h.setup_is in
    created_step c.args.state m h _ c.create_session-creation.result creates c.is_created-exists.result c.is_created-exists.ensures _ _ _ (c.print_creation-printed.ensures _ (creation_told _ c.create_session-creation.result creates))
