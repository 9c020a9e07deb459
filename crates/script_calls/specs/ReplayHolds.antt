-- What the state of a replay stores, and what a line does: spec_replay's steps on the struct.
use Rattle.std.specs.Prelude.{ℕ, ◌≡◌, Bool, true, false, List, Some, Result, Ok, Err}
use Rattle.std.proofs.Math.Option.{Option, none, some}
use Rattle.spec_session.specs.Session.{Session}
use Rattle.spec_replay.specs.Replay.{State, Step, onward, stops}
use Rattle.bytes_printer.specs.Prints.{Prints}
use Rattle.projection_patch.specs.Meaning.{edition_of}
use Rattle.shell_player.specs.Holds.{Holds}
use Rattle.shell_player.specs.declared.session.ShellSession.{ShellSession}
use Rattle.session_creation.specs.Creation.{no_session_lem}
use Rattle.session_creation.specs.declared.CreationRefusal.{CreationRefusal}
use Rattle.session_turns.specs.declared.SenderTurns.{SenderTurns}
use Rattle.script_calls.specs.SetsUp.{SetsUp}
use Rattle.script_calls.specs.TurnsHeld.{TurnsHeld}
use Rattle.script_calls.specs.declared.state.ReplayState.{ReplayState}
use Rattle.script_calls.specs.declared.state.ReplayStep.{ReplayStep}

-- there is a session, and the struct stores it; or there is none, and what stands for none is in its place
abbrev pub SessionHeld : Bool → ShellSession → Option Session → Type 0
SessionHeld true s (some m) = Holds s m
SessionHeld true s none = ⊥
SessionHeld false s (some m) = ⊥
SessionHeld false s none = s ≡ no_session_lem

pub record ReplayHolds (s : ReplayState) (m : State) : Type 0 where
  pub setup_is : SetsUp s.setup m.setup
  pub session_is : SessionHeld s.exists s.session m.session
  pub turns_are : TurnsHeld s.turns m.turns
  pub edition_is : edition_of s.edition ≡ m.edition

-- what a line does to a state and a slice: the state afterwards, and as much of its answer as fits from the slice's start on; where the
-- replay stops the state stays
abbrev pub SteppedBy : ReplayState → List ℕ → List ℕ → ReplayStep → Step → Type 0
SteppedBy s before after r (onward m printed) = (r.stopped ≡ false) × (ReplayHolds r.state m × Prints before (Some 0) printed after r.printed)
SteppedBy s before after r (stops printed) = (r.stopped ≡ true) × ((r.state ≡ s) × Prints before (Some 0) printed after r.printed)

pub record ReplayStepped (s : ReplayState) (before after : List ℕ) (r : ReplayStep) (step : Step) : Type 0 where
  pub is : SteppedBy s before after r step

-- the state with another session
abbrev pub with_latest : ReplayState → ShellSession → ReplayState
with_latest s x = record { setup = s.setup; exists = s.exists; session = x; turns = s.turns; edition = s.edition }

-- the state with other turns
abbrev pub with_latest_turns : ReplayState → SenderTurns → ReplayState
with_latest_turns s t = record { setup = s.setup; exists = s.exists; session = s.session; turns = t; edition = s.edition }

unfoldable pub is_created : Result (Unit {0}) CreationRefusal → Bool
is_created (Ok u) = true
is_created (Err r) = false
