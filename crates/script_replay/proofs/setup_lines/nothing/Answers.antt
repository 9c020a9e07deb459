-- `script_replay::setup_lines::nothing` meets its contract: the state stays.
use mathlib.Core.Path.{refl}
use Rattle.spec_replay.specs.Replay.{replay_line}
use Rattle.script_replay.specs.LineLaws.{silent_step}
use Rattle.script_replay.proofs.setup_lines.nothing.Goals as goal

pub returns : goal.returns
unfolding replay_line
returns c = λ m h n out. silent_step _ out _ m refl refl h
