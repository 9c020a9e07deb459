-- `script_replay::set_lines::answered` meets its contract: the state stays, and the replay goes on.
use mathlib.Core.Path.{refl}
use Rattle.script_calls.specs.ReplayHoldsLaws.{step_goes_on}
use Rattle.script_replay.proofs.set_lines.answered.Goals as goal

pub returns : goal.returns
returns c = λ m h before after lines p. step_goes_on refl h p
