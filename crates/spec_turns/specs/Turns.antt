-- Turns among senders: set-up, registering, the turn call. 02, Job 14. Senders are numbered from 0 on.
use Rattle.std.specs.Prelude.{ℕ, zero, suc, ◌+◌, Bool, true, false, List, leb, ltb, length, get_or, set, replicate, if◌then◌else◌}
use Rattle.std.proofs.Math.Option.{Option, none, some}
use Rattle.spec_lists.specs.Lists.{between}
use Rattle.spec_patch.specs.Sizes.{largest_u64}
use Rattle.spec_session.specs.Session.{Cursor, uninitialized, at}

-- for each sender whether it waits, and who was named last
pub record Turns : Type 0 where
  pub waiting : List Bool
  pub last : Option ℕ

-- how many senders there are; no call changes it
abbrev pub senders : Turns → ℕ
senders t = length t.waiting

-- no number out of the range waits
abbrev pub waits : Turns → ℕ → Bool
waits t s = get_or t.waiting s false

-- ---- set-up

abbrev pub most_senders : ℕ
most_senders = 8

pub data SetUpRefusal : Type 0 where
  wrong_sender_count : SetUpRefusal

abbrev pub set_up_number : SetUpRefusal → ℕ
set_up_number wrong_sender_count = 21

pub data SetUp : Type 0 where
  made : Turns → SetUp
  refused : SetUpRefusal → SetUp

-- at the start nobody waits and nobody was named
unfoldable pub new_turns : ℕ → Turns
new_turns n = record { waiting = replicate n false; last = none }

-- one to eight senders, else 21 and no turns
unfoldable pub set_up : ℕ → SetUp
set_up n = if between 1 most_senders n then made (new_turns n) else refused wrong_sender_count

-- ---- registering

pub data RegisterRefusal : Type 0 where
  unknown_sender already_waiting : RegisterRefusal

abbrev pub register_number : RegisterRefusal → ℕ
register_number unknown_sender = 19
register_number already_waiting = 20

pub data RegisterAnswer : Type 0 where
  registered : RegisterAnswer
  register_refused : RegisterRefusal → RegisterAnswer

pub record RegisterStep : Type 0 where
  pub next : Turns
  pub answer : RegisterAnswer

-- whoever is refused, all turns stay as they were
unfoldable pub refuse_register : Turns → RegisterRefusal → RegisterStep
refuse_register t r = record { next = t; answer = register_refused r }

unfoldable pub start_waiting : Turns → ℕ → RegisterStep
start_waiting t s = record { next = record { waiting = set t.waiting s true; last = t.last }; answer = registered }

-- 19 for a number out of the range, then 20 for a sender that waits already
unfoldable pub register : Turns → ℕ → RegisterStep
register t s =
    if leb (senders t) s then refuse_register t unknown_sender
    else if waits t s then refuse_register t already_waiting
    else start_waiting t s

-- ---- the turn call

-- the sender that follows in a circle of n: behind the last stands 0
unfoldable pub after : ℕ → ℕ → ℕ
after n s = if ltb (s + 1) n then s + 1 else 0

-- who is asked first: the one after the one last named; at the start sender 0
unfoldable pub first_asked : ℕ → Option ℕ → ℕ
first_asked n none = 0
first_asked n (some s) = after n s

-- of so many senders, from one on around the circle, the first that waits
unfoldable pub first_waiting : List Bool → ℕ → ℕ → Option ℕ
first_waiting waiting zero s = none
first_waiting waiting (suc more) s = if get_or waiting s false then some s else first_waiting waiting more (after (length waiting) s)

-- whose turn it is: everybody is asked once, and the one last named as the last
unfoldable pub next_sender : Turns → Option ℕ
next_sender t = first_waiting t.waiting (senders t) (first_asked (senders t) t.last)

-- the number for the batch: the one after the cursor, 1 while it is Uninitialized, at the largest number that number again
unfoldable pub number_after : Cursor → ℕ
number_after uninitialized = 1
number_after (at m) = if ltb m largest_u64 then m + 1 else largest_u64

pub data TurnAnswer : Type 0 where
  nobody : TurnAnswer
  turn_of : (sender number : ℕ) → TurnAnswer

pub record TurnStep : Type 0 where
  pub next : Turns
  pub answer : TurnAnswer

-- who is named waits no more, and is the one last named
unfoldable pub spend_turn : Turns → ℕ → Turns
spend_turn t s = record { waiting = set t.waiting s false; last = some s }

-- where nobody waits the answer is none and nothing moves
unfoldable pub turn_for : Turns → Cursor → Option ℕ → TurnStep
turn_for t c none = record { next = t; answer = nobody }
turn_for t c (some s) = record { next = spend_turn t s; answer = turn_of s (number_after c) }

-- a turn call, with the session's cursor as it is then
unfoldable pub turn : Turns → Cursor → TurnStep
turn t c = turn_for t c (next_sender t)
