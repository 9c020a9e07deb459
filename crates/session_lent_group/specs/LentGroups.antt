-- What a group on lent slices answers and leaves: 02, 'Job 12'. The session's own half and the anchors stay by their type; the two halves to work in
-- are told.
use Rattle.std.specs.Prelude.{ℕ, ◌<◌, ◌≡◌, Bool, true, false, ◌&&◌, List, Option, Some, None, [], eqb, length, if◌then◌else◌, Result, Ok, Err}
use Rattle.spec_session.specs.Session.{Session}
use Rattle.spec_group.specs.Group as model
use Rattle.spec_group.specs.Group.{is_group, group_number, group}
use Rattle.panel_rows.specs.Rows.{length_bytes}
use Rattle.session_lifecycle.specs.Meaning.{cursor_of}
use Rattle.session_lifecycle.specs.declared.state.ProjectionReplayCursor.{ProjectionReplayCursor}
use Rattle.session_group.specs.declared.GroupBatch.{GroupBatch}
use Rattle.session_group.specs.declared.GroupAnswer.{GroupAnswer}
use Rattle.session_group.specs.declared.GroupAnswer.TheVariants.{NotAGroup, Taken, RefusedAt}
use Rattle.session_group.specs.Groups.{Names, group_answer_of, answer_number}
use Rattle.session_lent.specs.Head.{state_at}
use Rattle.session_lent.specs.LentSession.{anchors_shaped, half_shaped}
use Rattle.session_lent.specs.Halves.{Anchors, Half, HeldIn, RoomIn}
use Rattle.session_lent_group.specs.declared.places.LentHalf.{LentHalf}
use Rattle.session_lent_group.specs.declared.places.LentHalf.TheVariants.{Own}
use Rattle.session_lent_group.specs.declared.places.RefusedBatch.{RefusedBatch}
use Rattle.session_lent_group.specs.Sendings.{standing}

-- ---- slices that a group can be sent to

-- the head and the tables of a half to work in have their lengths, and no count is over its capacity
abbrev pub work_shaped : Half → Bool
work_shaped h = half_shaped h.head (length h.bindings) (length h.availability) (length h.entries) && eqb (length h.lengths) length_bytes

-- the anchors and the session's own half with the first half to work in; of the own half the lengths of collections are not asked for
abbrev pub own_shaped : Anchors → (own first : Half) → Bool
own_shaped k own first =
    anchors_shaped (length k.nodes) (length k.pairs) (length k.collections)
    && (half_shaped own.head (length own.bindings) (length own.availability) (length own.entries) && work_shaped first)

-- ---- the step of a session that is held

-- the answer is the model's; the named half has the next session, and both halves to work in are room for a later call, whatever came of the group
pub record LentGroupStep (k : Anchors) (answer : GroupAnswer) (half : LentHalf) (own first second : Half) (s : model.GroupStep) : Type 0 where
  pub same_answer : group_answer_of answer ≡ s.answer
  pub next : HeldIn k (standing half own first second) s.next
  pub first_room : RoomIn first
  pub second_room : RoomIn second

-- ---- what is answered of a run

-- all were taken, with the cursor that the named half's head tells; or the answer of the refused batch with the cursor of the own half's
abbrev pub ConcludedAs : Result LentHalf RefusedBatch → (count : ℕ) (own first second : List ℕ) → (GroupAnswer × LentHalf) → Type 0
ConcludedAs (Ok half) count own first second r = (c : ProjectionReplayCursor) × ((cursor_of c ≡ (state_at (standing half own first second)).cursor) × (r ≡ (Taken count c, half)))
ConcludedAs (Err x) count own first second r =
    (c : ProjectionReplayCursor) × ((cursor_of c ≡ (state_at own).cursor) × (r ≡ (RefusedAt x.place (record { disposition = x.answer.disposition; diagnostics = x.answer.diagnostics; replay_cursor = c }), Own)))

-- ---- for any slices whatever

-- what is no group changes no byte; all are counted as taken, and the cursor is the one that the named half tells; a refused group's session and cursor
-- are those of the own half
abbrev pub LentAnswerFits : (count : ℕ) → GroupAnswer → LentHalf → (own first second first' second' : Half) → Type 0
LentAnswerFits count NotAGroup half own first second first' second' = (half ≡ Own) × ((first' ≡ first) × (second' ≡ second))
LentAnswerFits count (Taken n c) half own first second first' second' = (n ≡ count) × (cursor_of c ≡ (state_at (standing half own first' second').head).cursor)
LentAnswerFits count (RefusedAt i a) half own first second first' second' = (half ≡ Own) × ((i < count) × (cursor_of a.replay_cursor ≡ (state_at own.head).cursor))

-- ---- the call: what is read, the halves to work in before, the answer, and these halves afterwards

-- the own half is a half for any lengths of collections, which no batch reads
module _ (k : Anchors) (own : List ℕ → Half) (places : List GroupBatch) (count : ℕ) (sets : List ℕ) (first second : Half) where
  pub record ShapedGroup (answer : GroupAnswer) (half : LentHalf) (first' second' : Half) : Type 0 where
    pub became : (m : Session) (l : List ℕ) → HeldIn k (own l) m → RoomIn first → RoomIn second → (bs : List model.GroupBatch) → Names count places bs → LentGroupStep k answer half (own l) first' second' (group m bs sets)
    pub kept : LentAnswerFits count answer half (own []) first second first' second'
    -- 17 for just what is no group
    pub number : (bs : List model.GroupBatch) → Names count places bs → answer_number answer ≡ (if is_group bs sets then 0 else group_number)

  abbrev pub group_shaped : Bool
  group_shaped = own_shaped k (own []) first && work_shaped second

  -- memory of that shape is answered; of any other nothing is changed
  pub record LentGroupCall (r : Option (GroupAnswer × LentHalf)) (first' second' : Half) : Type 0 where
    pub answered : group_shaped ≡ true → (answer : GroupAnswer) × ((half : LentHalf) × ((r ≡ Some (answer, half)) × ShapedGroup answer half first' second'))
    pub refused : group_shaped ≡ false → (r ≡ None) × ((first' ≡ first) × (second' ≡ second))
