-- `takes_number` meets its contract.
use borrow.Author.Tests.{lt-ltb, le-ltb}
use Rattle.spec_patch.specs.Sizes.{largest_u64}
use Rattle.spec_session.specs.Batch.{takes_number}
use Rattle.session_lifecycle.specs.Meaning.{cursor_of}
use Rattle.session_gates.proofs.gates.takes_number.Goals as goal

pub returns-in-Uninitialized : goal.returns-in-Uninitialized
unfolding takes_number cursor_of
returns-in-Uninitialized c = rw c.in-Uninitialized.is

pub returns-then-last-lt18446744073709551615 : goal.returns-then-last-lt18446744073709551615
unfolding takes_number cursor_of
returns-then-last-lt18446744073709551615 c = rw (c.in-At.is, lt-ltb c.in-At.last largest_u64 c.if-last-lt18446744073709551615.true)

pub returns-else-last-lt18446744073709551615 : goal.returns-else-last-lt18446744073709551615
unfolding takes_number cursor_of
returns-else-last-lt18446744073709551615 c = rw (c.in-At.is, le-ltb c.in-At.last largest_u64 c.if-last-lt18446744073709551615.false)
