-- `script_replay::group_lines::group_batch` meets its contract: field by field.
use mathlib.Core.Path.{refl}
use Rattle.script_replay.proofs.group_lines.group_batch.Goals as goal

pub returns : goal.returns
returns c = refl
