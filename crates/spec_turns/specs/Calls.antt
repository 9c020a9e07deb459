-- Register and turn calls in a row, of which the claims on turns speak. 02, Job 14.
use Rattle.std.specs.Prelude.{ℕ, ◌+◌, Bool, true, false, ◌&&◌, ◌||◌, List, [], ◌∷◌, eqb, if◌then◌else◌}
use Rattle.spec_session.specs.Session.{Cursor}
use Rattle.spec_turns.specs.Turns.{Turns, register, TurnAnswer, nobody, turn_of, turn}

-- somebody registers, or there is a turn call while the session's cursor stands so
pub data Call : Type 0 where
  registers : (sender : ℕ) → Call
  turn_call : Cursor → Call

unfoldable pub step : Turns → Call → Turns
step t (registers s) = (register t s).next
step t (turn_call c) = (turn t c).next

-- the turns after all calls
unfoldable pub run : Turns → List Call → Turns
run t [] = t
run t (c ∷ cs) = run (step t c) cs

-- what the turn calls among them answer, in order
unfoldable pub answers : Turns → List Call → List TurnAnswer
answers t [] = []
answers t (registers s ∷ cs) = answers (register t s).next cs
answers t (turn_call c ∷ cs) = (turn t c).answer ∷ answers (turn t c).next cs

unfoldable pub names : ℕ → TurnAnswer → Bool
names s nobody = false
names s (turn_of x number) = eqb x s

-- so many of the answers name the sender
unfoldable pub times_named : ℕ → List TurnAnswer → ℕ
times_named s [] = 0
times_named s (a ∷ rest) = (if names s a then 1 else 0) + times_named s rest

-- the sender registers before the next turn call, if there is one
unfoldable pub registers_first : ℕ → List Call → Bool
registers_first s [] = true
registers_first s (registers x ∷ cs) = eqb x s || registers_first s cs
registers_first s (turn_call c ∷ cs) = false

-- the sender registers again between each of its turns and the next turn call
unfoldable pub registers_again : ℕ → Turns → List Call → Bool
registers_again s t [] = true
registers_again s t (registers x ∷ cs) = registers_again s (register t x).next cs
registers_again s t (turn_call c ∷ cs) = (if names s (turn t c).answer then registers_first s cs else true) && registers_again s (turn t c).next cs
