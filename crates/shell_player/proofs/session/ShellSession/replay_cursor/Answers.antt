-- `ShellSession::replay_cursor` meets its contract.
use mathlib.Core.Path.{refl, ap}
use Rattle.spec_session.specs.Lifecycle.{LocalState, state_of}
use Rattle.shell_player.proofs.session.ShellSession.replay_cursor.Goals as goal

pub returns : goal.returns
unfolding state_of
returns c = record { whatever = refl; holding = λ m h. ap (λ (t : LocalState). t.cursor) h.state }
