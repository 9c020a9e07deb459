-- What the exported calls on turns answer, as numbers.
use Rattle.std.specs.Prelude.{ℕ, Option, Some, None, Result, Ok, Err}
use Rattle.spec_turns.specs.Turns.{set_up_number, wrong_sender_count, register_number}
use Rattle.session_turns.specs.Meaning.{register_refusal_of}
use Rattle.session_turns.specs.declared.SetUpRefusal.{SetUpRefusal}
use Rattle.session_turns.specs.declared.RegisterRefusal.{RegisterRefusal}
use Rattle.session_turns.specs.declared.Turn.{Turn}
use Rattle.c_exports.specs.declared.turns.GeysertrayTurn.{GeysertrayTurn}

-- 21
abbrev pub set_up_told : Result (Unit {0}) SetUpRefusal → ℕ
set_up_told (Ok u) = 0
set_up_told (Err f) = set_up_number wrong_sender_count

-- 3 for no turns, which eleven numbers always tell
abbrev pub lent_set_up_told : Option (Result (Unit {0}) SetUpRefusal) → ℕ
lent_set_up_told (Some a) = set_up_told a
lent_set_up_told None = 3

-- 19 or 20
abbrev pub register_told : Result (Unit {0}) RegisterRefusal → ℕ
register_told (Ok u) = 0
register_told (Err f) = register_number (register_refusal_of f)

abbrev pub lent_register_told : Option (Result (Unit {0}) RegisterRefusal) → ℕ
lent_register_told (Some a) = register_told a
lent_register_told None = 3

-- nobody, or the sender with the number for its batch
abbrev pub turn_to : Option Turn → GeysertrayTurn
turn_to None = record { disposition = 0; named = 0; sender = 0; number = 0 }
turn_to (Some t) = record { disposition = 0; named = 1; sender = t.sender; number = t.number }

abbrev pub lent_turn_told : Option (Option Turn) → GeysertrayTurn
lent_turn_told (Some a) = turn_to a
lent_turn_told None = record { disposition = 3; named = 0; sender = 0; number = 0 }
