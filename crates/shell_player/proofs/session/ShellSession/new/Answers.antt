-- `ShellSession::new` meets its contract.
use Rattle.spec_projection.specs.Projection.{empty}
use Rattle.spec_projection.proofs.ValidLaws.{empty_valid}
use Rattle.local_projection_state.specs.Stores.{stored_state}
use Rattle.local_projection_state.specs.StoresLaws.{one_state, some_state}
use Rattle.shell_player.specs.Steps.{new_state}
use borrow.Author.Rules.{rules}
use Rattle.shell_player.proofs.session.ShellSession.new.Goals as goal

pub returns : goal.returns
unfolding new_state
returns c = rw (one_state empty c.empty-local_projection.result (stored_state empty) c.empty-local_projection.ensures (some_state empty empty_valid))
