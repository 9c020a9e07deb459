-- `enter` meets its contract.
use Rattle.spec_session.specs.Lifecycle.{enter_lifecycle, with_lifecycle, state_of}
use Rattle.session_lifecycle.proofs.lifecycle.enter.Goals as goal

pub returns : goal.returns
unfolding enter_lifecycle with_lifecycle state_of
returns c = λ l. rw (c.disposition_of.ensures, c.no_diagnostics.ensures)
