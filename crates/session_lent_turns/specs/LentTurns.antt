-- Turns in eleven lent numbers: how many senders there are, of each of eight whether it waits, and who was last named.
use Rattle.std.specs.Prelude.{ℕ, ◌≡◌, Bool, true, false, not, List, [], ◌∷◌, eqb, length, get_or, if◌then◌else◌, Option, Some, None, Result, Ok, Err}
use Rattle.spec_session.specs.Session.{Cursor}
use Rattle.spec_turns.specs.Turns as model
use Rattle.session_turns.specs.Meaning.{set_up_to, set_up_answered, registration_to, turn_taken_to, turns_of}
use Rattle.session_turns.specs.declared.SenderTurns.{SenderTurns}
use Rattle.session_turns.specs.declared.SetUpRefusal.{SetUpRefusal}
use Rattle.session_turns.specs.declared.RegisterRefusal.{RegisterRefusal}
use Rattle.session_turns.specs.declared.Turn.{Turn}

-- how many numbers tell the turns
abbrev pub turns_numbers : ℕ
turns_numbers = 11

-- ---- what the numbers tell

-- a sender waits where its number is not 0
abbrev pub waits_at : List ℕ → ℕ → Bool
waits_at t i = not (eqb (get_or t i 0) 0)

-- 0 is nobody
unfoldable pub named_at : ℕ → ℕ → Option ℕ
named_at kind sender = if eqb kind 0 then None else Some sender

abbrev pub turns_at : List ℕ → SenderTurns
turns_at t = record {
  senders = get_or t 0 0;
  waiting = waits_at t 1 ∷ waits_at t 2 ∷ waits_at t 3 ∷ waits_at t 4 ∷ waits_at t 5 ∷ waits_at t 6 ∷ waits_at t 7 ∷ waits_at t 8 ∷ [];
  last = named_at (get_or t 9 0) (get_or t 10 0);
}

-- ---- the numbers of turns

abbrev pub turn_flag : Bool → ℕ
turn_flag false = 0
turn_flag true = 1

abbrev pub named_kind : Option ℕ → ℕ
named_kind None = 0
named_kind (Some s) = 1

abbrev pub named_number : Option ℕ → ℕ
named_number None = 0
named_number (Some s) = s

abbrev pub waiting_flag : SenderTurns → ℕ → ℕ
waiting_flag t i = turn_flag (get_or t.waiting i false)

abbrev pub turn_numbers : SenderTurns → List ℕ
turn_numbers t =
    t.senders
    ∷ waiting_flag t 0
    ∷ waiting_flag t 1
    ∷ waiting_flag t 2
    ∷ waiting_flag t 3
    ∷ waiting_flag t 4
    ∷ waiting_flag t 5
    ∷ waiting_flag t 6
    ∷ waiting_flag t 7
    ∷ named_kind t.last
    ∷ named_number t.last
    ∷ []

-- ---- what the calls answer and leave

-- a slice of another length is left; of eleven numbers an answer is given, and what it leaves
pub record TurnsCall {B : Type 0} (t : List ℕ) (answer : B) (left : List ℕ) (r : Option B) (t' : List ℕ) : Type 0 where
  pub other : (length t ≡ turns_numbers → ⊥) → (r ≡ None) × (t' ≡ t)
  pub eleven : length t ≡ turns_numbers → (r ≡ Some answer) × (t' ≡ left)

-- turns that were made, or what stood there
abbrev pub set_up_left : List ℕ → Result SenderTurns SetUpRefusal → List ℕ
set_up_left t (Ok next) = turn_numbers next
set_up_left t (Err f) = t

abbrev pub SetUpCall : ℕ → (t : List ℕ) → Option (Result (Unit {0}) SetUpRefusal) → List ℕ → Type 0
SetUpCall senders t r t' =
    let made = set_up_to (model.set_up senders) in
    TurnsCall t (set_up_answered made) (set_up_left t made) r t'

abbrev pub register_left : List ℕ → Result (Unit {0}) RegisterRefusal → SenderTurns → List ℕ
register_left t (Ok u) next = turn_numbers next
register_left t (Err f) next = t

abbrev pub RegisterCall : ℕ → (t : List ℕ) → Option (Result (Unit {0}) RegisterRefusal) → List ℕ → Type 0
RegisterCall sender t r t' =
    let done = registration_to (turns_at t) (model.register (turns_of (turns_at t)) sender) in
    TurnsCall t done.answer (register_left t done.answer done.turns) r t'

-- with none waiting nothing moves
abbrev pub turn_left : List ℕ → Option Turn → SenderTurns → List ℕ
turn_left t None next = t
turn_left t (Some n) next = turn_numbers next

abbrev pub TurnCall : Cursor → (t : List ℕ) → Option (Option Turn) → List ℕ → Type 0
TurnCall cursor t r t' =
    let done = turn_taken_to (turns_at t) (model.turn (turns_of (turns_at t)) cursor) in
    TurnsCall t done.answer (turn_left t done.answer done.turns) r t'
