-- Several batches, or none: 02, 'Job 12'. Their sets lie end to end in one list of bytes.
use Rattle.std.specs.Prelude.{ℕ, ◌+◌, Bool, ◌&&◌, List, [], ◌∷◌, leb, eqb, length, take, drop, if◌then◌else◌}
use Rattle.spec_patch.specs.Edition.{Edition}
use Rattle.spec_session.specs.Session.{Cursor, Session}
use Rattle.spec_session.specs.Batch.{BatchEnvelope, BatchAnswer, BatchStep, batch}
use Rattle.spec_splitting.specs.Splitting.{is_rejected}

-- the most batches of a group
abbrev pub group_batches : ℕ
group_batches = 8

-- what a batch call takes, and how many bytes its set has
pub record GroupBatch : Type 0 where
  pub edition : Edition
  pub envelope : BatchEnvelope
  pub references : ℕ
  pub bytes : ℕ

-- the bytes of all sets together, as a whole number
unfoldable pub total_bytes : List GroupBatch → ℕ
total_bytes [] = 0
total_bytes (b ∷ bs) = b.bytes + total_bytes bs

-- one to eight batches whose lengths add up to the lent bytes
unfoldable pub is_group : List GroupBatch → List ℕ → Bool
is_group bs sets = leb 1 (length bs) && (leb (length bs) group_batches && eqb (total_bytes bs) (length sets))

-- the first batch of a group, with the first of the bytes
unfoldable pub send_first : Session → GroupBatch → List ℕ → BatchStep
send_first s b sets = batch b.edition s b.envelope b.references (take b.bytes sets)

-- what became of the batches: the session at the end, or the place and the answer of the first that was rejected
pub data GroupRun : Type 0 where
  ended : Session → GroupRun
  broke : (place : ℕ) → BatchAnswer → GroupRun

-- each goes to the session just handed back, until one is rejected; they are counted from a place on
unfoldable pub run_group : ℕ → Session → List GroupBatch → List ℕ → GroupRun
run_group place s [] sets = ended s
run_group place s (b ∷ bs) sets =
    if is_rejected (send_first s b sets).answer.disposition then broke place (send_first s b sets).answer
    else run_group (place + 1) (send_first s b sets).next bs (drop b.bytes sets)

-- no group; all taken, with the cursor afterwards; or the place of the first refused batch with its answer
pub data GroupAnswer : Type 0 where
  not_a_group : GroupAnswer
  taken : (count : ℕ) → Cursor → GroupAnswer
  refused_at : (place : ℕ) → BatchAnswer → GroupAnswer

-- 17 for no batches, more than eight, or lengths that do not add up
abbrev pub group_number : ℕ
group_number = 17

-- how many batches were taken
unfoldable pub taken_count : GroupAnswer → ℕ
taken_count not_a_group = 0
taken_count (taken n c) = n
taken_count (refused_at i a) = 0

pub record GroupStep : Type 0 where
  pub next : Session
  pub answer : GroupAnswer

-- the same answer with another cursor
unfoldable pub with_cursor : Cursor → BatchAnswer → BatchAnswer
with_cursor c a = record { disposition = a.disposition; diagnostics = a.diagnostics; cursor = c }

-- a rejection leaves the session before the first batch, and its cursor stands in the answer
unfoldable pub conclude_group : Session → ℕ → GroupRun → GroupStep
conclude_group s n (ended t) = record { next = t; answer = taken n t.cursor }
conclude_group s n (broke place a) = record { next = s; answer = refused_at place (with_cursor s.cursor a) }

-- the whole call: 17 before any batch is looked at
unfoldable pub group : Session → List GroupBatch → List ℕ → GroupStep
group s bs sets =
    if is_group bs sets then conclude_group s (length bs) (run_group 0 s bs sets)
    else record { next = s; answer = not_a_group }
