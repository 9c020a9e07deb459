-- `cursor_number` meets its contract.
use mathlib.Core.Path.{sym, ap}
use Rattle.session_lifecycle.specs.Meaning.{cursor_of}
use Rattle.session_lent.specs.Head.{cursor_number}
use borrow.Author.Rules.{rules}
use Rattle.c_answers.proofs.answers.cursor_number.Goals as goal

pub returns-in-Uninitialized : goal.returns-in-Uninitialized
unfolding cursor_of
returns-in-Uninitialized c = ap (λ k. cursor_number (cursor_of k)) (sym c.in-Uninitialized.is)

pub returns-in-At : goal.returns-in-At
unfolding cursor_of
returns-in-At c = ap (λ k. cursor_number (cursor_of k)) (sym c.in-At.is)
