-- `script_replay::setup_lines::start` meets its contract: nothing is set up, and what stands for no session is in its place.
use mathlib.Core.Path.{refl, ap}
use Rattle.spec_replay.specs.Replay as replay
use Rattle.script_calls.specs.TurnsHeld.{held_turns}
use Rattle.session_creation.specs.Creation.{anchors_within, creation_with}
use Rattle.session_creation.specs.declared.ShellSessionCreation.{ShellSessionCreation}
use borrow.Author.Rules.{rules}
use Rattle.script_replay.proofs.setup_lines.start.Goals as goal

pub returns : goal.returns
unfolding replay.start creation_with anchors_within held_turns
returns c =
    record {
      setup_is = c.new-setup.ensures;
      session_is = ap (λ (r : ShellSessionCreation). r.session) c.create_shell_session-refused.ensures;
      turns_are = record { are = c.none.ensures; few = tt };
      edition_is = refl;
    }
