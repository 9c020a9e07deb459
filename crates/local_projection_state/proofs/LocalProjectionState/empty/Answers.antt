-- `LocalProjectionState::empty` meets its contract: zeros hold no rows.
use Rattle.local_projection_state.specs.StoresLaws.{empty_stored}
use Rattle.local_projection_state.proofs.LocalProjectionState.empty.Goals as goal

pub returns : goal.returns
returns c = empty_stored
