-- `first_asked` meets its contract.
use Rattle.spec_turns.specs.Turns.{first_asked}
use Rattle.session_turns.proofs.first_asked.Goals as goal

pub returns-in-None : goal.returns-in-None
unfolding first_asked
returns-in-None c = rw c.in-None.is

pub returns-in-Some : goal.returns-in-Some
unfolding first_asked
returns-in-Some c = rw c.in-Some.is c.after.ensures
