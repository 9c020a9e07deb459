-- What a line on turns does to a replay: there are senders whose turns answer, or none; a set-up takes the place of the one before.
use Rattle.std.specs.Prelude as code
use Rattle.std.specs.Prelude.{ℕ, ◌≤◌, ◌<◌, ◌≡◌, Bool, true, false, List, leb, if◌then◌else◌, Some, Result}
use Rattle.std.proofs.Math.Path.{refl, ap, subst}
use Rattle.std.proofs.Common.{sym, ◌∙◌, arith, leb-true}
use Rattle.std.proofs.Math.Option.{Option, none, some}
use Rattle.spec_lists.specs.Lists.{between}
use Rattle.spec_lists.proofs.ListLaws.{and_left, and_right}
use Rattle.spec_session.specs.Session.{Cursor}
use Rattle.spec_turns.specs.Turns as model
use Rattle.spec_turns.specs.Turns.{Turns, senders, most_senders, SetUp, set_up, register, turn}
use Rattle.spec_turns.proofs.TurnsLaws.{new_turns_senders, register_senders, turn_senders}
use Rattle.spec_replay.specs.Answers.{no_session_line, set_up_line}
use Rattle.spec_replay.specs.Replay.{State, Step, onward, asked_turns, settled, turned, with_turns}
use Rattle.bytes_printer.specs.Prints.{Prints}
use Rattle.session_turns.specs.declared.SenderTurns.{SenderTurns}
use Rattle.session_turns.specs.declared.SetUpRefusal.{SetUpRefusal}
use Rattle.std.specs.Result.{result_unwrap_or}
use Rattle.session_turns.specs.declared.Registration.{Registration}
use Rattle.session_turns.specs.declared.TurnTaken.{TurnTaken}
use Rattle.session_turns.specs.Meaning.{set_up_to, registration_to, turn_taken_to, Registers, TakesTurn}
use Rattle.session_turns.specs.Runs.{turn_answer_of}
use Rattle.session_turns.proofs.RunsLaws.{answer_back}
use Rattle.script_answers.specs.TurnAnswers.{register_answer_of, registration_told}
use Rattle.script_calls.specs.TurnsHeld.{held_turns, TurnsHeld}
use Rattle.script_calls.specs.TurnsHeldLaws.{turns_there, turns_nowhere, told_turns, held_next}
use Rattle.script_calls.specs.declared.state.ReplayState.{ReplayState}
use Rattle.script_calls.specs.declared.state.ReplayStep.{ReplayStep}
use Rattle.script_calls.specs.ReplayHolds.{ReplayHolds, ReplayStepped, with_latest_turns}
use Rattle.script_calls.specs.ReplayHoldsLaws.{step_goes_on}

module _ (m : State) (f : Turns → Step) where
  asked_is : (o : Option Turns) → m.turns ≡ o → asked_turns m f ≡ elim o [ none ↦ onward m no_session_line | some t ↦ f t ]
  unfolding asked_turns
  asked_is o e = ap (λ (p : Option Turns). elim p [ none ↦ onward m no_session_line | some t ↦ f t ]) e

module _ (s : ReplayState) (m : State) (h : ReplayHolds s m) (before after : List ℕ) (r : ReplayStep) (f : Turns → Step) where
  -- the turns answer
  pub turns_asked : 0 < s.turns.senders → ((t : Turns) → TurnsHeld s.turns (some t) → ReplayStepped s before after r (f t)) → ReplayStepped s before after r (asked_turns m f)
  turns_asked e step =
      let one = turns_there s.turns m.turns h.turns_are e in
      subst (ReplayStepped s before after r) (sym (asked_is m f (some one.0) one.1)) (step one.0 one.2)

  -- there are none
  pub no_turns_asked : s.turns.senders ≤ 0 → ReplayStepped s before after r (onward m no_session_line) → ReplayStepped s before after r (asked_turns m f)
  no_turns_asked e step = subst (ReplayStepped s before after r) (sym (asked_is m f none (turns_nowhere s.turns m.turns h.turns_are e))) step

module _ (s : ReplayState) (m : State) (h : ReplayHolds s m) where
  -- the state with the turns after a call
  pub holds_turns : (x : SenderTurns) (t : Turns) → TurnsHeld x (some t) → ReplayHolds (with_latest_turns s x) (with_turns m t)
  unfolding with_turns
  holds_turns x t held = record { setup_is = h.setup_is; session_is = h.session_is; turns_are = held; edition_is = h.edition_is }

-- ---- what the calls leave and answer

module _ (x : SenderTurns) (t : Turns) (h : TurnsHeld x (some t)) where
  module _ (i : ℕ) (r : Registration) (is : Registers x i r) where
    registration : r ≡ registration_to x (register t i)
    registration = is ∙ ap (λ (u : Turns). registration_to x (register u i)) (told_turns x t h)

    pub registered_next : TurnsHeld r.turns (some (register t i).next)
    unfolding registration_to
    registered_next = subst (λ (u : SenderTurns). TurnsHeld u (some (register t i).next)) (sym (ap (λ (k : Registration). k.turns) registration)) (held_next x t h (register t i).next (register_senders t i))

    pub registered_answer : register_answer_of r.answer ≡ (register t i).answer
    unfolding registration_to
    registered_answer = ap (λ (k : Registration). register_answer_of k.answer) registration ∙ registration_told (register t i).answer

  module _ (c : Cursor) (r : TurnTaken) (is : TakesTurn x c r) where
    taken : r ≡ turn_taken_to x (turn t c)
    taken = is ∙ ap (λ (u : Turns). turn_taken_to x (turn u c)) (told_turns x t h)

    pub turned_next : TurnsHeld r.turns (some (turn t c).next)
    unfolding turn_taken_to
    turned_next = subst (λ (u : SenderTurns). TurnsHeld u (some (turn t c).next)) (sym (ap (λ (k : TurnTaken). k.turns) taken)) (held_next x t h (turn t c).next (turn_senders t c))

    pub turned_answer : turn_answer_of r.answer ≡ (turn t c).answer
    unfolding turn_taken_to
    turned_answer = ap (λ (k : TurnTaken). turn_answer_of k.answer) taken ∙ answer_back (turn t c).answer

-- a turn at a cursor is one at the same cursor told otherwise
pub at_cursor : {s : ReplayState} {before after : List ℕ} {r : ReplayStep} (m : State) (c d : Cursor) → c ≡ d → ReplayStepped s before after r (asked_turns m (λ t. turned m (turn t c)))
    → ReplayStepped s before after r (asked_turns m (λ t. turned m (turn t d)))
at_cursor {s} {before} {after} {r} m c d e step = subst (λ (k : Cursor). ReplayStepped s before after r (asked_turns m (λ t. turned m (turn t k)))) e step

-- ---- set-up

abbrev FewMade : SetUp → Type 0
FewMade (model.made t) = (1 ≤ senders t) × (senders t ≤ most_senders)
FewMade (model.refused r) = Unit {0}

few_made : (k : ℕ) → FewMade (set_up k)
unfolding set_up
few_made k = by (between 1 most_senders k) refl
  where
    by : (b : Bool) → between 1 most_senders k ≡ b → FewMade (if b then model.made (model.new_turns k) else model.refused model.wrong_sender_count)
    by true e = (omega (arith, new_turns_senders k, leb-true 1 k (and_left (leb 1 k) (leb k most_senders) e)), omega (arith, new_turns_senders k, leb-true k most_senders (and_right (leb 1 k) (leb k most_senders) e)))
    by false e = tt

module _ (s : ReplayState) (m : State) (h : ReplayHolds s m) (r : Result SenderTurns SetUpRefusal) (x : SenderTurns) (chosen : x ≡ result_unwrap_or r s.turns) (before after : List ℕ) (p : code.Option ℕ) where
  settled_as : (u : SetUp) → FewMade u → r ≡ set_up_to u → Prints before (Some 0) (set_up_line u) after p
      → ReplayStepped s before after (record { state = with_latest_turns s x; printed = p; stopped = false }) (settled m u)
  unfolding settled set_up_to held_turns with_turns
  settled_as (model.made t) few is printed =
      let made : x ≡ held_turns (some t) = chosen ∙ ap (λ (k : Result SenderTurns SetUpRefusal). result_unwrap_or k s.turns) is in
      step_goes_on refl (record { setup_is = h.setup_is; session_is = h.session_is; turns_are = record { are = made; few = few }; edition_is = h.edition_is }) printed
  settled_as (model.refused model.wrong_sender_count) few is printed =
      let own : x ≡ s.turns = chosen ∙ ap (λ (k : Result SenderTurns SetUpRefusal). result_unwrap_or k s.turns) is in
      step_goes_on refl (record { setup_is = h.setup_is; session_is = h.session_is; turns_are = subst (λ (u : SenderTurns). TurnsHeld u m.turns) (sym own) h.turns_are; edition_is = h.edition_is }) printed

  pub settled_step : (k : ℕ) → r ≡ set_up_to (set_up k) → Prints before (Some 0) (set_up_line (set_up k)) after p
      → ReplayStepped s before after (record { state = with_latest_turns s x; printed = p; stopped = false }) (settled m (set_up k))
  settled_step k = settled_as (set_up k) (few_made k)
