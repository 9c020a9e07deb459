-- `script_replay::setup_lines::in_edition` meets its contract: another edition, and all else as it was.
use mathlib.Core.Path.{refl}
use Rattle.spec_replay.specs.Replay.{with_edition, replay_line}
use Rattle.script_replay.specs.LineLaws.{silent_step}
use Rattle.script_replay.proofs.setup_lines.in_edition.Goals as goal

pub returns : goal.returns
unfolding with_edition replay_line
returns c = λ m h n out. silent_step _ out _ _ refl refl (record { setup_is = h.setup_is; session_is = h.session_is; turns_are = h.turns_are; edition_is = refl })
