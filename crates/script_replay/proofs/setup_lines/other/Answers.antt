-- `script_replay::setup_lines::other` meets its contract.
use mathlib.Core.Path.{refl}
use Rattle.script_calls.specs.ReplayHoldsLaws.{step_stops}
use borrow.Author.Rules.{rules}
use Rattle.script_replay.proofs.setup_lines.other.Goals as goal

pub returns : goal.returns
returns c = step_stops _ refl refl c.print_other-printed.ensures
