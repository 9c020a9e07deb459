-- `ShellSession::state` meets its contract.
use mathlib.Core.Path.{refl}
use Rattle.shell_player.proofs.session.ShellSession.state.Goals as goal

pub returns : goal.returns
returns c = record { whatever = refl; holding = λ m h. h.state }
