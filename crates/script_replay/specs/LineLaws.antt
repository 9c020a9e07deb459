-- Laws of the lines: what prints nothing, and what a decoded set is.
use Rattle.std.specs.Prelude as code
use Rattle.std.specs.Prelude.{ℕ, ◌-◌, ◌≤◌, ◌<◌, Bool, List, [], drop, if◌then◌else◌, Some, Result, Ok, Err}
use Rattle.std.proofs.Math.Path.{◌≡◌, refl, ap}
use Rattle.std.proofs.Common.{sym, subst, ◌∙◌, length-drop}
use Rattle.std.proofs.Math.Bool.{true, false}
use Rattle.std.proofs.Math.Option.{Option, none, some}
use native.Mathlib.Omega.{arith}
use borrow.Author.Tests.{lt-leb, leb-true}
use Rattle.std.proofs.Math.Dec.{leb}
use Rattle.std.proofs.Math.ListN.{length, take}
use Rattle.spec_replay.specs.Hex.{read_hex}
use Rattle.spec_replay.specs.Script.{Command, other, line_bytes, given, command}
use Rattle.spec_replay.specs.Replay.{State, onward, replay_line}
use Rattle.bytes_printer.specs.Prints.{Prints}
use Rattle.bytes_printer.proofs.PrintsLaws.{nothing_printed}
use Rattle.bytes_hex.specs.declared.HexRefusal.{HexRefusal}
use Rattle.bytes_hex.specs.declared.HexRefusal.TheVariants.{Malformed, NoRoom}
use Rattle.bytes_hex.specs.Decoding.{decoding, decoded_into}
use Rattle.bytes_hex.specs.DecodingLaws.{decoded_part, always_room}
use Rattle.script_parser.specs.Meaning.{set_from, setup_of, script_command_of}
use Rattle.script_parser.specs.declared.SetupLine.{SetupLine}
use Rattle.script_parser.specs.declared.ScriptCommand.{ScriptCommand}
use Rattle.script_calls.specs.SetsUp.{SetsUp}
use Rattle.script_calls.specs.declared.setup.ReplaySetup.{ReplaySetup}
use Rattle.script_calls.specs.declared.state.ReplayState.{ReplayState}
use Rattle.script_calls.specs.declared.state.ReplayStep.{ReplayStep}
use Rattle.script_calls.specs.ReplayHolds.{ReplayHolds, ReplayStepped}
use Rattle.script_calls.specs.ReplayHoldsLaws.{step_goes_on}
use Rattle.script_replay.specs.SetupLines.{next_setup, setup_line}

-- a line that prints nothing leaves the slice as it was
pub silent_step : (s : ReplayState) (l : List ℕ) (r : ReplayStep) (m : State) → r.stopped ≡ false → r.printed ≡ Some 0 → ReplayHolds r.state m → ReplayStepped s l l r (onward m [])
silent_step s l r m goes unprinted h = step_goes_on goes h (subst (λ (p : code.Option ℕ). Prints l (Some 0) [] l p) (sym unprinted) (nothing_printed l (Some 0) (omega arith)))

-- a line for the next creation
pub set_up_step : (s : ReplayState) (m : State) → ReplayHolds s m → (t : ReplaySetup) (line : SetupLine) → SetsUp t (next_setup m.setup line) → (n : ℕ) (l : List ℕ)
    → ReplayStepped s l l (record { state = record { setup = t; exists = s.exists; session = s.session; turns = s.turns; edition = s.edition }; printed = Some 0; stopped = false }) (replay_line n m (setup_of line))
set_up_step s m h t line new n l =
    subst (ReplayStepped s l l (record { state = record { setup = t; exists = s.exists; session = s.session; turns = s.turns; edition = s.edition }; printed = Some 0; stopped = false })) (setup_line n m line)
    (silent_step s l _ _ refl refl (record { setup_is = new; session_is = h.session_is; turns_are = h.turns_are; edition_is = h.edition_is }))

-- ---- lines

-- a step at a command is one at the same command told otherwise
pub line_step : {s : ReplayState} {before after : List ℕ} {r : ReplayStep} (n : ℕ) (m : State) (k j : Command) → j ≡ k → ReplayStepped s before after r (replay_line n m j) → ReplayStepped s before after r (replay_line n m k)
line_step {s} {before} {after} {r} n m k j e step = subst (λ (x : Command). ReplayStepped s before after r (replay_line n m x)) e step

-- a line that is too long
pub long_other : (line : List ℕ) → line_bytes < length line → command line ≡ other
unfolding command
long_other line h = rw (lt-leb (length line) line_bytes h)

-- what a parsed line stands for, by the case that it is
pub parsed_as : (line : List ℕ) (p c : ScriptCommand) → script_command_of line p ≡ command line → p ≡ c → script_command_of line c ≡ command line
parsed_as line p c told e = ap (script_command_of line) (sym e) ∙ told

-- ---- sets in hex

module _ (line : List ℕ) (from : ℕ) (next : List ℕ → Command) (lent after : List ℕ) (r : Result ℕ HexRefusal)
    (told : r ≡ decoding (length lent) (read_hex (drop from line))) where
  -- the bytes that were decoded
  pub set_is : after ≡ decoded_into lent (read_hex (drop from line)) → (n : ℕ) → r ≡ Ok n → set_from line from next ≡ next (take (n - 0) after)
  unfolding given
  set_is left n e =
      let same : n - 0 ≡ n = omega arith in
      let one : read_hex (drop from line) ≡ some (take n (decoded_into lent (read_hex (drop from line)))) = decoded_part lent (read_hex (drop from line)) n (sym told ∙ e) in
      ap (λ (o : Option (List ℕ)). given o next) one ∙ ap next (ap (take n) (sym left) ∙ ap (λ (k : ℕ). take k after) (sym same))

  -- they are within what was lent
  pub set_within : (n : ℕ) → r ≡ Ok n → n ≤ length lent
  unfolding decoding
  set_within n e = go (read_hex (drop from line)) (sym told ∙ e)
    where
      go : (o : Option (List ℕ)) → decoding (length lent) o ≡ Ok n → n ≤ length lent
      go none h = absurd (let z : ◌≡◌ {A = ℕ} 0 1 = cc in omega arith)
      go (some bs) h = by (leb (length bs) (length lent)) refl h
        where
          by : (t : Bool) → leb (length bs) (length lent) ≡ t → (if t then Ok (length bs) else Err NoRoom) ≡ Ok n → n ≤ length lent
          by true few h = let same : length bs ≡ n = cc in omega (arith, leb-true (length bs) (length lent) few)
          by false few h = absurd (let z : ◌≡◌ {A = ℕ} 0 1 = cc in omega arith)

  pub no_set_bytes : r ≡ Err Malformed → set_from line from next ≡ other
  unfolding given decoding
  no_set_bytes e = go (read_hex (drop from line)) (sym told ∙ e)
    where
      go : (o : Option (List ℕ)) → decoding (length lent) o ≡ Err Malformed → given o next ≡ other
      go none h = refl
      go (some bs) h = never (leb (length bs) (length lent)) h
        where
          never : (t : Bool) → (if t then Ok (length bs) else Err NoRoom) ≡ Err Malformed → next bs ≡ other
          never true h = absurd (let z : ◌≡◌ {A = ℕ} 0 1 = cc in omega arith)
          never false h = absurd (let z : ◌≡◌ {A = ℕ} 0 1 = cc in omega arith)

  -- there is always room for what a line spells
  pub line_has_room : 65536 ≤ length lent → length line ≤ line_bytes → r ≡ Err NoRoom → ⊥
  line_has_room room short e = always_room (drop from line) (length lent) (omega (arith, length-drop from line)) (sym told ∙ e)

  -- whatever the refusal, the line spells no set
  pub no_set : 65536 ≤ length lent → length line ≤ line_bytes → (e : HexRefusal) → r ≡ Err e → set_from line from next ≡ other
  no_set room short Malformed e = no_set_bytes e
  no_set room short NoRoom e = absurd (line_has_room room short e)
