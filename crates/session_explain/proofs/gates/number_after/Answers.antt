-- `session_explain::gates::number_after` meets its contract, case by case.
use borrow.Author.Tests.{lt-ltb}
use Rattle.spec_patch.specs.Sizes.{largest_u64}
use Rattle.spec_explain.specs.Explain.{next_number}
use Rattle.session_lifecycle.specs.Meaning.{cursor_of}
use borrow.Author.Rules.{rules}
use Rattle.session_explain.proofs.gates.number_after.Goals as goal

pub returns-then-last : goal.returns-then-last
unfolding next_number cursor_of
returns-then-last c = rw (c.in-At.is, c.if-last.true)

pub returns-in-Uninitialized : goal.returns-in-Uninitialized
unfolding next_number cursor_of
returns-in-Uninitialized c = rw c.in-Uninitialized.is

pub returns-else-last : goal.returns-else-last
unfolding next_number cursor_of
returns-else-last c = rw (c.in-At.is, lt-ltb c.in-At.last largest_u64 (search rules))
