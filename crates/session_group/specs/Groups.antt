-- What the types of a group stand for in spec_group, and what its call hands back: 02, 'Job 12'.
use Rattle.std.specs.Prelude.{ℕ, ◌<◌, ◌≡◌, Bool, ◌&&◌, List, map, leb, eqb, length, take, if◌then◌else◌}
use Rattle.spec_session.specs.Session.{Session}
use Rattle.spec_group.specs.Group as model
use Rattle.spec_group.specs.Group.{group_batches, total_bytes, is_group, group_number, group}
use Rattle.projection_patch.specs.Meaning.{edition_of}
use Rattle.session_lifecycle.specs.Meaning.{cursor_of}
use Rattle.session_gates.specs.Gates.{batch_envelope_of}
use Rattle.session_steps.specs.Answers.{batch_answer_of}
use Rattle.session_steps.specs.declared.answers.ProjectionPatchApplicationResult.{ProjectionPatchApplicationResult}
use Rattle.shell_player.specs.declared.session.ShellSession.{ShellSession}
use Rattle.shell_player.specs.Holds.{Holds}
use Rattle.session_group.specs.declared.GroupBatch.{GroupBatch}
use Rattle.session_group.specs.declared.GroupAnswer.{GroupAnswer}
use Rattle.session_group.specs.declared.GroupAnswer.TheVariants.{NotAGroup, Taken, RefusedAt}
use Rattle.session_group.specs.declared.ProjectionPatchGroup.{ProjectionPatchGroup}

-- ---- the batches of a call

abbrev pub batch_means : GroupBatch → model.GroupBatch
batch_means b = record { edition = edition_of b.edition; envelope = batch_envelope_of b.envelope; references = b.declared_target_reference_count; bytes = b.bytes }

-- the batches in the first places
abbrev pub named_batch : ℕ → List GroupBatch → List model.GroupBatch
named_batch count places = map batch_means (take count places)

-- the batches that a call names: as many as its count, and the first eight of them stand in its places
pub record Names (count : ℕ) (places : List GroupBatch) (bs : List model.GroupBatch) : Type 0 where
  pub many : length bs ≡ count
  pub firsts : take group_batches bs ≡ named_batch count places

-- whether they are a group, by the count and the places
unfoldable pub names_group : ℕ → List GroupBatch → ℕ → Bool
names_group count places bytes = leb 1 count && (leb count group_batches && eqb (total_bytes (named_batch count places)) bytes)

-- ---- the answers

unfoldable pub group_answer_of : GroupAnswer → model.GroupAnswer
group_answer_of NotAGroup = model.not_a_group
group_answer_of (Taken n c) = model.taken n (cursor_of c)
group_answer_of (RefusedAt i a) = model.refused_at i (batch_answer_of a)

-- a group has no number of its own
abbrev pub answer_number : GroupAnswer → ℕ
answer_number NotAGroup = group_number
answer_number (Taken n c) = 0
answer_number (RefusedAt i a) = 0

abbrev pub no_group : ShellSession → ProjectionPatchGroup
no_group s = record { session = s; answer = NotAGroup }

abbrev pub all_taken : ShellSession → ℕ → ProjectionPatchGroup
all_taken s n = record { session = s; answer = Taken n s.state.replay_cursor }

-- the answer of the batch in this place, with the cursor of the session
abbrev pub first_refused : ShellSession → ℕ → ProjectionPatchApplicationResult → ProjectionPatchGroup
first_refused s i a = record { session = s; answer = RefusedAt i (record { disposition = a.disposition; diagnostics = a.diagnostics; replay_cursor = s.state.replay_cursor }) }

-- ---- the relation of a group call

-- the answer is the step's, and the session handed back stores the next one
pub record GroupBecame (r : ProjectionPatchGroup) (step : model.GroupStep) : Type 0 where
  pub answer : group_answer_of r.answer ≡ step.answer
  pub next : Holds r.session step.next

-- for every session that the struct stores, what the model's group gives on the batches that the call names
pub record GroupCall (s : ShellSession) (places : List GroupBatch) (count : ℕ) (sets : List ℕ) (r : ProjectionPatchGroup) : Type 0 where
  pub became : (m : Session) → Holds s m → (bs : List model.GroupBatch) → Names count places bs → GroupBecame r (group m bs sets)

-- ---- the relation of a group call for every struct whatever

-- all are counted as taken and the cursor is the next session's; or the session is the one that came in, and a refused answer has its cursor
abbrev pub AnswerFits : ℕ → ShellSession → ShellSession → GroupAnswer → Type 0
AnswerFits count s next NotAGroup = next ≡ s
AnswerFits count s next (Taken n c) = (n ≡ count) × (c ≡ next.state.replay_cursor)
AnswerFits count s next (RefusedAt i a) = (i < count) × ((a.replay_cursor ≡ s.state.replay_cursor) × (next ≡ s))

pub record AnyGroupCall (s : ShellSession) (places : List GroupBatch) (count : ℕ) (sets : List ℕ) (r : ProjectionPatchGroup) : Type 0 where
  pub kept : AnswerFits count s r.session r.answer
  -- 17 for just what is no group
  pub number : (bs : List model.GroupBatch) → Names count places bs → answer_number r.answer ≡ (if is_group bs sets then 0 else group_number)
