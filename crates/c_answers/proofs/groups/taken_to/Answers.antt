-- `taken_to` meets its contract.
use borrow.Author.Rules.{rules}
use Rattle.c_answers.proofs.groups.taken_to.Goals as goal

pub returns : goal.returns
returns c = λ i. record { disposition = 0; number = 0; stage = 0; logical = 0; emitted = 0; has_cursor = c.cursor_kind.ensures i; cursor = c.cursor_number.ensures i }
