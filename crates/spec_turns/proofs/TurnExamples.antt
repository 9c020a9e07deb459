-- Turns computed, from 02's words, as one table.
use Rattle.std.specs.Prelude.{ℕ, ◌-◌, ◌^◌, Bool, List, [], ◌∷◌, T, eqb}
use Rattle.spec_lists.specs.Lists.{all, equal_lists}
use Rattle.spec_session.specs.Session.{uninitialized, at}
use Rattle.spec_turns.specs.Turns.{Turns, SetUp, made, refused, set_up_number, new_turns, set_up, register_number, RegisterAnswer, registered, register_refused, refuse_register, start_waiting, register, after, first_asked, first_waiting, next_sender, number_after, TurnAnswer, nobody, turn_of, spend_turn, turn_for, turn}
use Rattle.spec_turns.specs.Calls.{Call, registers, turn_call}

-- a proof that computes turns opens this
unfoldable pub opened_turns : Unit {0}
unfolding set_up new_turns refuse_register start_waiting register after first_asked first_waiting next_sender number_after spend_turn turn_for turn
opened_turns = tt

-- ---- answers as numbers

-- 0, or the number of the refusal
abbrev set_up_shown : SetUp → ℕ
set_up_shown (made t) = 0
set_up_shown (refused r) = set_up_number r

abbrev register_shown : RegisterAnswer → List ℕ
register_shown registered = 0 ∷ []
register_shown (register_refused r) = register_number r ∷ []

-- the sender and the number, or nothing
abbrev turn_told : TurnAnswer → List ℕ
turn_told nobody = []
turn_told (turn_of s n) = s ∷ n ∷ []

abbrev told : Turns → List Call → List (List ℕ)
told t [] = []
told t (registers s ∷ cs) = register_shown (register t s).answer ∷ told (register t s).next cs
told t (turn_call c ∷ cs) = turn_told (turn t c).answer ∷ told (turn t c).next cs

-- calls on new turns of so many senders, and all their answers
abbrev tells : ℕ → List Call → List (List ℕ) → Bool
tells n calls expected = equal_lists (equal_lists eqb) (told (new_turns n) calls) expected

abbrev pub now : Call
now = turn_call uninitialized

abbrev last : ℕ
last = 2 ^ 64 - 1

-- ---- the table

abbrev examples : List Bool
examples =
    -- set-up: one to eight senders, else 21
    eqb (set_up_shown (set_up 0)) 21 ∷ eqb (set_up_shown (set_up 1)) 0 ∷ eqb (set_up_shown (set_up 8)) 0 ∷ eqb (set_up_shown (set_up 9)) 21
    -- registering: 19 out of the range, 20 for one that waits; once it was named it may register again
    ∷ tells 3 (registers 2 ∷ registers 3 ∷ registers 2 ∷ now ∷ registers 2 ∷ []) ((0 ∷ []) ∷ (19 ∷ []) ∷ (20 ∷ []) ∷ (2 ∷ 1 ∷ []) ∷ (0 ∷ []) ∷ [])
    -- at the start from sender 0 on; where nobody waits none, and after sender 2 of three comes 0
    ∷ tells 3 (registers 2 ∷ registers 0 ∷ now ∷ now ∷ now ∷ registers 1 ∷ registers 0 ∷ now ∷ [])
    ((0 ∷ []) ∷ (0 ∷ []) ∷ (0 ∷ 1 ∷ []) ∷ (2 ∷ 1 ∷ []) ∷ [] ∷ (0 ∷ []) ∷ (0 ∷ []) ∷ (0 ∷ 1 ∷ []) ∷ [])
    -- a turn call that names nobody moves nothing: the next after 1 is 2
    ∷ tells 3 (registers 1 ∷ now ∷ now ∷ registers 0 ∷ registers 2 ∷ now ∷ []) ((0 ∷ []) ∷ (1 ∷ 1 ∷ []) ∷ [] ∷ (0 ∷ []) ∷ (0 ∷ []) ∷ (2 ∷ 1 ∷ []) ∷ [])
    -- a chatty sender is named again in a row only where nobody else waits
    ∷ tells 2 (registers 0 ∷ now ∷ registers 0 ∷ now ∷ registers 0 ∷ registers 1 ∷ now ∷ now ∷ [])
    ((0 ∷ []) ∷ (0 ∷ 1 ∷ []) ∷ (0 ∷ []) ∷ (0 ∷ 1 ∷ []) ∷ (0 ∷ []) ∷ (0 ∷ []) ∷ (1 ∷ 1 ∷ []) ∷ (0 ∷ 1 ∷ []) ∷ [])
    -- the number after the cursor at that call; at the largest that number again
    ∷ tells 3 (registers 0 ∷ registers 1 ∷ registers 2 ∷ turn_call (at 0) ∷ turn_call (at (last - 1)) ∷ turn_call (at last) ∷ [])
    ((0 ∷ []) ∷ (0 ∷ []) ∷ (0 ∷ []) ∷ (0 ∷ 1 ∷ []) ∷ (1 ∷ last ∷ []) ∷ (2 ∷ last ∷ []) ∷ [])
    ∷ []

turn_examples : T (all (λ (b : Bool). b) examples)
unfolding opened_turns
turn_examples = tt
