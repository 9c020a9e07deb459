-- What is left of a group on its way between halves of lent memory, and what came of the batches that were sent.
use Rattle.std.specs.Prelude.{ℕ, ◌+◌, ◌≤◌, ◌<◌, ◌≡◌, List, length, drop, Option, Some, None, Result, Ok, Err}
use Rattle.spec_session.specs.Session.{Session}
use Rattle.spec_group.specs.Group as model
use Rattle.spec_group.specs.Group.{group_batches, total_bytes, ended, broke, run_group}
use Rattle.session_steps.specs.Answers.{batch_answer_of}
use Rattle.session_steps.specs.declared.answers.ProjectionPatchApplicationResult.{ProjectionPatchApplicationResult}
use Rattle.session_group.specs.declared.GroupBatch.{GroupBatch}
use Rattle.session_group.specs.Groups.{named_batch}
use Rattle.session_lent.specs.Halves.{Anchors, Half, HeldIn, RoomIn}
use Rattle.session_lent_group.specs.declared.places.LentHalf.{LentHalf}
use Rattle.session_lent_group.specs.declared.places.LentHalf.TheVariants.{Own, First, Second}
use Rattle.session_lent_group.specs.declared.places.GroupLeft.{GroupLeft}
use Rattle.session_lent_group.specs.declared.places.RefusedBatch.{RefusedBatch}

-- ---- what is left

abbrev pub left_batches : GroupLeft → List model.GroupBatch
left_batches g = drop g.place (named_batch g.count g.batches)

-- the run of the batches that are left, from a session on
abbrev pub run_left : GroupLeft → Session → List ℕ → model.GroupRun
run_left g m sets = run_group g.place m (left_batches g) (drop g.at sets)

-- the sets of the batches that are left are the bytes that are left
pub record LeftFits (g : GroupLeft) (sets : List ℕ) : Type 0 where
  pub few : g.count ≤ group_batches
  pub named : g.count ≤ length g.batches
  pub reached : g.place ≤ g.count
  pub bytes : g.at + total_bytes (left_batches g) ≡ length sets

-- a whole group
abbrev pub whole_group : List GroupBatch → ℕ → GroupLeft
whole_group places count = record { batches = places; count = count; place = 0; at = 0 }

-- the same group, from another place on
abbrev pub left_from : GroupLeft → ℕ → ℕ → GroupLeft
left_from g place at = record { batches = g.batches; count = g.count; place = place; at = at }

-- the batch of this place was refused, with this answer
abbrev pub refused_at : ℕ → ProjectionPatchApplicationResult → RefusedBatch
refused_at place answer = record { place = place; answer = answer }

-- ---- batches from one half to another

-- the session stays where none was applied; otherwise the other half has the next one, and what is left ends as the whole does
abbrev pub SentOn : Result (Option (ℕ × ℕ)) RefusedBatch → Anchors → (to : Half) → GroupLeft → List ℕ → Session → model.GroupRun → Type 0
SentOn (Ok None) k to g sets m whole = whole ≡ ended m
SentOn (Err x) k to g sets m whole = whole ≡ broke x.place (batch_answer_of x.answer)
SentOn (Ok (Some (place, at))) k to g sets m whole = (next : Session) × (HeldIn k to next × (run_left (left_from g place at) next sets ≡ whole))

-- for any slices whatever: the other half stays where none was applied
abbrev pub SentFits : Result (Option (ℕ × ℕ)) RefusedBatch → GroupLeft → List ℕ → (before after : Half) → Type 0
SentFits (Ok None) g sets before after = after ≡ before
SentFits (Err x) g sets before after = (x.place < g.count) × (after ≡ before)
SentFits (Ok (Some (place, at))) g sets before after = (g.place < place) × LeftFits (left_from g place at) sets

-- ---- all batches that are left

-- the one in this place
abbrev pub standing : {A : Type 0} → LentHalf → (own first second : A) → A
standing Own own first second = own
standing First own first second = first
standing Second own first second = second

-- the named half has the session at the end; whatever came of the batches, both halves to work in are room
abbrev pub RanOn : Result LentHalf RefusedBatch → Anchors → (own first second : Half) → model.GroupRun → Type 0
RanOn (Ok half) k own first second whole = (next : Session) × ((whole ≡ ended next) × (HeldIn k (standing half own first second) next × (RoomIn first × RoomIn second)))
RanOn (Err x) k own first second whole = (whole ≡ broke x.place (batch_answer_of x.answer)) × (RoomIn first × RoomIn second)

abbrev pub RanFits : Result LentHalf RefusedBatch → (count : ℕ) → Type 0
RanFits (Ok half) count = Unit {0}
RanFits (Err x) count = x.place < count

-- a run with the two halves exchanged
abbrev pub turned_half : LentHalf → LentHalf
turned_half Own = Own
turned_half First = Second
turned_half Second = First

abbrev pub turned_to : Result LentHalf RefusedBatch → Result LentHalf RefusedBatch
turned_to (Ok half) = Ok (turned_half half)
turned_to (Err x) = Err x
