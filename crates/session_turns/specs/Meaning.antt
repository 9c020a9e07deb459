-- What the types of this crate stand for in spec_turns, and what its calls answer.
use Rattle.std.specs.Prelude.{ℕ, ◌≡◌, false, ◌++◌, take, drop, replicate, Option, Some, None, Result, Ok, Err}
use Rattle.spec_lists.specs.Options.{optional_of, optional_to}
use Rattle.spec_session.specs.Session.{Cursor}
use Rattle.spec_turns.specs.Turns as model
use Rattle.spec_turns.specs.Turns.{most_senders}
use Rattle.session_turns.specs.declared.SenderTurns.{SenderTurns}
use Rattle.session_turns.specs.declared.SetUpRefusal.{SetUpRefusal}
use Rattle.session_turns.specs.declared.SetUpRefusal.TheVariants.{WrongSenderCount}
use Rattle.session_turns.specs.declared.RegisterRefusal.{RegisterRefusal}
use Rattle.session_turns.specs.declared.RegisterRefusal.TheVariants.{UnknownSender, AlreadyWaiting}
use Rattle.session_turns.specs.declared.Registration.{Registration}
use Rattle.session_turns.specs.declared.Turn.{Turn}
use Rattle.session_turns.specs.declared.TurnTaken.{TurnTaken}

-- ---- the struct

-- the turns that a struct tells, also one that no call gives: the flags of its senders, and the one last named
unfoldable pub turns_of : SenderTurns → model.Turns
turns_of t = record { waiting = take t.senders t.waiting; last = optional_of t.last }

-- the struct that tells the turns after a call: as many senders, and flags past them as they stood
unfoldable pub turns_to : SenderTurns → model.Turns → SenderTurns
turns_to t m = record { senders = t.senders; waiting = m.waiting ++ drop t.senders t.waiting; last = optional_to m.last }

-- all flags false, and nobody named
unfoldable pub fresh_turns : ℕ → SenderTurns
fresh_turns n = record { senders = n; waiting = replicate most_senders false; last = None }

-- ---- the answers

unfoldable pub set_up_to : model.SetUp → Result SenderTurns SetUpRefusal
set_up_to (model.made m) = Ok (turns_to (fresh_turns (model.senders m)) m)
set_up_to (model.refused model.wrong_sender_count) = Err WrongSenderCount

-- the answer alone, without the struct
abbrev pub set_up_answered : Result SenderTurns SetUpRefusal → Result (Unit {0}) SetUpRefusal
set_up_answered (Ok made) = Ok tt
set_up_answered (Err f) = Err f

abbrev pub register_refusal_of : RegisterRefusal → model.RegisterRefusal
register_refusal_of UnknownSender = model.unknown_sender
register_refusal_of AlreadyWaiting = model.already_waiting

abbrev pub register_answer_to : model.RegisterAnswer → Result (Unit {0}) RegisterRefusal
register_answer_to model.registered = Ok tt
register_answer_to (model.register_refused model.unknown_sender) = Err UnknownSender
register_answer_to (model.register_refused model.already_waiting) = Err AlreadyWaiting

unfoldable pub registration_to : SenderTurns → model.RegisterStep → Registration
registration_to t r = record { answer = register_answer_to r.answer; turns = turns_to t r.next }

abbrev pub turn_answer_to : model.TurnAnswer → Option Turn
turn_answer_to model.nobody = None
turn_answer_to (model.turn_of s n) = Some (record { sender = s; number = n })

unfoldable pub turn_taken_to : SenderTurns → model.TurnStep → TurnTaken
turn_taken_to t r = record { answer = turn_answer_to r.answer; turns = turns_to t r.next }

-- ---- what the calls promise

abbrev pub Registers : SenderTurns → ℕ → Registration → Type 0
Registers t s r = r ≡ registration_to t (model.register (turns_of t) s)

abbrev pub TakesTurn : SenderTurns → Cursor → TurnTaken → Type 0
TakesTurn t c r = r ≡ turn_taken_to t (model.turn (turns_of t) c)
