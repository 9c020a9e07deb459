-- A group by numbers: seven for each batch, and what its call answers.
use Rattle.std.specs.Prelude.{ℕ, zero, suc, ◌*◌, ◌/◌, ◌%◌, min, Bool, true, ◌&&◌, List, Option, Some, None, [], ◌∷◌, ◌++◌, eqb, length, get_or, take, drop}
use Rattle.spec_session.specs.Session.{Cursor}
use Rattle.spec_group.specs.Group as model
use Rattle.spec_group.specs.Group.{group_batches, group_number}
use Rattle.session_lifecycle.specs.Meaning.{cursor_of}
use Rattle.session_steps.specs.Answers.{batch_answer_of}
use Rattle.session_lent.specs.Head.{cursor_kind, cursor_number}
use Rattle.session_group.specs.declared.GroupAnswer.{GroupAnswer}
use Rattle.session_group.specs.declared.GroupAnswer.TheVariants.{NotAGroup, Taken, RefusedAt}
use Rattle.session_lent_group.specs.declared.places.LentHalf.{LentHalf}
use Rattle.session_lent_group.specs.declared.places.LentHalf.TheVariants.{Own, First, Second}
use Rattle.c_answers.specs.declared.answers.GeysertrayAnswer.{GeysertrayAnswer}
use Rattle.c_answers.specs.declared.groups.GeysertrayGroupAnswer.{GeysertrayGroupAnswer}
use Rattle.c_answers.specs.Answers.{answer_to, session_absent}
use Rattle.c_answers.specs.Asked.{edition_at, is_edition}

-- ---- the batches

-- how many numbers tell a batch
abbrev pub batch_numbers : ℕ
batch_numbers = 7

-- session id, sequence number, patches, stimulus bytes, target references, edition, and the bytes of its set
unfoldable pub batch_of_numbers : List ℕ → model.GroupBatch
batch_of_numbers n = record {
  edition = edition_at (get_or n 5 0);
  envelope = record { session = get_or n 0 0; sequence = get_or n 1 0; patches = get_or n 2 0; stimulus_bytes = get_or n 3 0 };
  references = get_or n 4 0;
  bytes = get_or n 6 0;
}

-- the numbers of the batch in a place
abbrev pub numbers_at : List ℕ → ℕ → List ℕ
numbers_at numbers i = take batch_numbers (drop (i * batch_numbers) numbers)

-- so many batches
unfoldable pub first_batches : List ℕ → ℕ → List model.GroupBatch
first_batches numbers zero = []
first_batches numbers (suc i) = first_batches numbers i ++ (batch_of_numbers (numbers_at numbers i) ∷ [])

abbrev pub batch_count : List ℕ → ℕ
batch_count numbers = length numbers / batch_numbers

-- the batches that the numbers tell
abbrev pub batches_told : List ℕ → List model.GroupBatch
batches_told numbers = first_batches numbers (batch_count numbers)

-- so many batches have an edition
unfoldable pub editions_known : List ℕ → ℕ → Bool
editions_known numbers zero = true
editions_known numbers (suc i) = editions_known numbers i && is_edition (get_or (numbers_at numbers i) 5 0)

-- seven numbers for each, and the first eight have an edition; those behind are not looked at
abbrev pub batches_known : List ℕ → Bool
batches_known numbers = eqb (length numbers % batch_numbers) 0 && editions_known numbers (min (batch_count numbers) group_batches)

-- ---- the answers

abbrev pub half_number : LentHalf → ℕ
half_number Own = 0
half_number First = 1
half_number Second = 2

-- nothing was refused, and the cursor stands there
abbrev pub taken_to : Cursor → GeysertrayAnswer
taken_to c = record { disposition = 0; number = 0; stage = 0; logical = 0; emitted = 0; has_cursor = cursor_kind c; cursor = cursor_number c }

-- 17: every other number but that of the rejection is 0
abbrev pub not_a_group_to : GeysertrayAnswer
not_a_group_to = record { disposition = 2; number = group_number; stage = 0; logical = 0; emitted = 0; has_cursor = 0; cursor = 0 }

abbrev pub group_with : (count place half : ℕ) → GeysertrayAnswer → GeysertrayGroupAnswer
group_with count place half answer = record { count = count; place = place; half = half; answer = answer }

-- no session (3), or no such edition or numbers that are no sevens (4)
abbrev pub group_absent : ℕ → GeysertrayGroupAnswer
group_absent d = group_with 0 0 0 (session_absent d)

-- with the number of the half
abbrev pub group_to : ℕ → GroupAnswer → GeysertrayGroupAnswer
group_to half NotAGroup = group_with 0 0 half not_a_group_to
group_to half (Taken n c) = group_with n 0 half (taken_to (cursor_of c))
group_to half (RefusedAt i a) = group_with 0 i half (answer_to (batch_answer_of a))

abbrev pub group_told : Option (GroupAnswer × LentHalf) → GeysertrayGroupAnswer
group_told (Some (answer, half)) = group_to (half_number half) answer
group_told None = group_absent 3
