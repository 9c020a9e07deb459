-- Register and turn calls on a struct in a row, linked by what the calls promise.
use Rattle.std.specs.Prelude.{◌≡◌, List, [], ◌∷◌, Option, Some, None}
use Rattle.spec_turns.specs.Turns as model
use Rattle.spec_turns.specs.Calls.{Call, registers, turn_call}
use Rattle.session_turns.specs.declared.SenderTurns.{SenderTurns}
use Rattle.session_turns.specs.declared.Registration.{Registration}
use Rattle.session_turns.specs.declared.Turn.{Turn}
use Rattle.session_turns.specs.declared.TurnTaken.{TurnTaken}
use Rattle.session_turns.specs.Meaning.{Registers, TakesTurn}

-- each call is made on the turns that the one before handed back; the turn calls answer these
abbrev pub Runs : SenderTurns → List Call → List (Option Turn) → Type 0
Runs t [] [] = Unit {0}
Runs t [] (a ∷ given) = ⊥
Runs t (registers s ∷ calls) given = (r : Registration) × Registers t s r × Runs r.turns calls given
Runs t (turn_call c ∷ calls) [] = ⊥
Runs t (turn_call c ∷ calls) (a ∷ given) = (r : TurnTaken) × TakesTurn t c r × (r.answer ≡ a) × Runs r.turns calls given

-- an answer in the definition's words
abbrev pub turn_answer_of : Option Turn → model.TurnAnswer
turn_answer_of None = model.nobody
turn_answer_of (Some t) = model.turn_of t.sender t.number
