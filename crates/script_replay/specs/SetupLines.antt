-- What a line for the next creation makes of the set-up.
use Rattle.std.specs.Prelude.{ℕ, ◌≡◌, refl, []}
use Rattle.spec_replay.specs.Replay.{Setup, State, onward, no_anchors, with_setup, with_anchors, with_node, with_binding, with_collection, replay_line}
use Rattle.session_lifecycle.specs.Meaning.{limits_of}
use Rattle.script_parser.specs.Meaning.{setup_of}
use Rattle.script_parser.specs.declared.SetupLine.{SetupLine}
use Rattle.script_parser.specs.declared.SetupLine.TheVariants.{Session, Node, Binding, Collection}
use Rattle.script_calls.specs.SetsUp.{anchored_replay}

abbrev pub next_setup : Setup → SetupLine → Setup
next_setup m (Session id limits) = record { id = id; limits = limits_of limits; catalogue = no_anchors }
next_setup m (Node n) = anchored_replay m (with_node m.catalogue n)
next_setup m (Binding n s) = anchored_replay m (with_binding m.catalogue (record { node = n; slot = s }))
next_setup m (Collection n) = anchored_replay m (with_collection m.catalogue n)

-- it is what the line does, and all that it does
pub setup_line : (number : ℕ) (m : State) (line : SetupLine) → onward (record { setup = next_setup m.setup line; session = m.session; turns = m.turns; edition = m.edition }) [] ≡ replay_line number m (setup_of line)
unfolding replay_line with_setup with_anchors
setup_line number m (Session id limits) = refl
setup_line number m (Node n) = refl
setup_line number m (Binding n s) = refl
setup_line number m (Collection n) = refl
