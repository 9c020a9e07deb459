-- A group that was sent is answered as the model's, and what is no group is refused first.
use Rattle.std.specs.Prelude.{ℕ, ◌≤◌, ◌≡◌, Bool, ◌&&◌, eqb, length, if◌then◌else◌, Option, Some, None, Result, Ok, Err}
use Rattle.std.proofs.Math.Path.{refl, ap}
use Rattle.std.proofs.Common.{sym, ◌∙◌, arith}
use Rattle.std.proofs.Math.Bool.{true, false}
use mathlib.Core.List.{List, []}
use Rattle.spec_lists.proofs.ListLaws.{and_left, and_right}
use Rattle.spec_session.specs.Session.{Cursor, Session}
use Rattle.spec_session.specs.Lifecycle.{LocalState, state_of}
use Rattle.spec_group.specs.Group as model
use Rattle.spec_group.specs.Group.{group_number, run_group, with_cursor, conclude_group, is_group, group}
use Rattle.panel_rows.specs.Rows.{length_bytes}
use Rattle.session_steps.specs.Answers.{batch_answer_of}
use Rattle.session_steps.specs.declared.answers.ProjectionPatchApplicationResult.{ProjectionPatchApplicationResult}
use Rattle.session_group.specs.declared.GroupBatch.{GroupBatch}
use Rattle.session_group.specs.declared.GroupAnswer.{GroupAnswer}
use Rattle.session_group.specs.declared.GroupAnswer.TheVariants.{NotAGroup, Taken, RefusedAt}
use Rattle.session_group.specs.Groups.{named_batch, names_group, Names, group_answer_of}
use Rattle.session_group.specs.GroupsLaws.{group_named, names_all, names_group_lem}
use Rattle.session_lent.specs.Head.{head_numbers, state_at}
use Rattle.session_lent.specs.HeadLaws.{state_told}
use Rattle.session_lent.specs.LentSession.{anchors_shaped, half_shaped}
use Rattle.session_lent.specs.BatchesLaws.{half_head}
use Rattle.session_lent.specs.Halves.{Anchors, Half, half_with, HeldIn}
use Rattle.session_lent_group.specs.declared.places.LentHalf.{LentHalf}
use Rattle.session_lent_group.specs.declared.places.LentHalf.TheVariants.{Own, First, Second}
use Rattle.session_lent_group.specs.declared.places.RefusedBatch.{RefusedBatch}
use Rattle.session_lent_group.specs.Sendings.{LeftFits, whole_group, standing}
use Rattle.session_lent_group.specs.SendingsLaws.{RanFrom}
use Rattle.session_lent_group.specs.LentGroups.{work_shaped, own_shaped, ConcludedAs, ShapedGroup}

-- ---- slices of the right shape

pub work_head : (h : Half) → work_shaped h ≡ true → length h.head ≡ head_numbers
work_head h e = half_head h.head (length h.bindings) (length h.availability) (length h.entries) (and_left (half_shaped h.head (length h.bindings) (length h.availability) (length h.entries)) (eqb (length h.lengths) length_bytes) e)

pub own_heads : (k : Anchors) (own first : Half) → own_shaped k own first ≡ true → (length own.head ≡ head_numbers) × (length first.head ≡ head_numbers)
own_heads k own first e =
    let held = half_shaped own.head (length own.bindings) (length own.availability) (length own.entries) in
    let rest = and_right (anchors_shaped (length k.nodes) (length k.pairs) (length k.collections)) (held && work_shaped first) e in
    (half_head own.head (length own.bindings) (length own.availability) (length own.entries) (and_left held (work_shaped first) rest), work_head first (and_right held (work_shaped first) rest))

-- ---- the cursor that a half tells

held_cursor : (k : Anchors) (h : Half) (m : Session) → HeldIn k h m → (state_at h.head).cursor ≡ m.cursor
unfolding state_of
held_cursor k h m held = ap (λ (t : LocalState). t.cursor) (state_told h.head m held.head_is)

standing_head : (half : LentHalf) (own first second : Half) → (standing half own first second).head ≡ standing half own.head first.head second.head
standing_head Own own first second = refl
standing_head First own first second = refl
standing_head Second own first second = refl

-- ---- the whole group

pub whole_fits : (places : List GroupBatch) (count : ℕ) (sets : List ℕ) → count ≤ length places → names_group count places (length sets) ≡ true → LeftFits (whole_group places count) sets
whole_fits places count sets named e =
    let is = group_named count places (length sets) e in
    record { few = is.0; named = named; reached = omega arith; bytes = omega (arith, is.1) }

module _ (k : Anchors) (h b a e : List ℕ) (places : List GroupBatch) (count : ℕ) (sets : List ℕ) (first second : Half) where
  abbrev Shaped : GroupAnswer → LentHalf → (first' second' : Half) → Type 0
  Shaped = ShapedGroup k (half_with h b a e) places count sets first second

  -- what the call answers of slices of the right shape
  abbrev pub ShapedAnswer : Option (GroupAnswer × LentHalf) → (first' second' : Half) → Type 0
  ShapedAnswer r first' second' = (answer : GroupAnswer) × ((half : LentHalf) × ((r ≡ Some (answer, half)) × Shaped answer half first' second'))

  numbered : (is : Bool) → names_group count places (length sets) ≡ is → (bs : List model.GroupBatch) → Names count places bs → (if is then 0 else group_number) ≡ (if is_group bs sets then 0 else group_number)
  numbered is e bs names = ap (λ (t : Bool). if t then 0 else group_number) (sym (names_group_lem names sets ∙ e))

  pub none_sent : names_group count places (length sets) ≡ false → ShapedAnswer (Some (NotAGroup, Own)) first second
  unfolding group group_answer_of
  none_sent is = (
    NotAGroup,
    (
      Own,
      (
        refl,
        record {
          became = λ m l held room room' bs names. rw (names_group_lem names sets ∙ is) (record { same_answer = refl; next = held; first_room = room; second_room = room' });
          kept = (refl, (refl, refl));
          number = λ bs names. numbered false is bs names;
        },
      ),
    ),
  )

  module _ (is : names_group count places (length sets) ≡ true) (first' second' : Half) where
    group_is : (m : Session) (bs : List model.GroupBatch) → Names count places bs → group m bs sets ≡ conclude_group m count (run_group 0 m (named_batch count places) sets)
    unfolding group
    group_is m bs names = rw (names_group_lem names sets ∙ is, names.many, names_all names (group_named count places (length sets) is).0) refl

    ended_answer : (half : LentHalf) → RanFrom k h b a e first second sets (whole_group places count) first' second' (Ok half) → (r : GroupAnswer × LentHalf) → ConcludedAs (Ok half) count h first'.head second'.head r → ShapedAnswer (Some r) first' second'
    unfolding conclude_group group_answer_of
    ended_answer half ran r con = (
      Taken count con.0,
      (
        half,
        (
          ap Some con.1.1,
          record {
            became = λ m l held room room' bs names.
                let x = ran.0 m l held room room' in
                rw (group_is m bs names, x.1.0) (
                record {
                  same_answer = ap (model.taken count) (con.1.0 ∙ ap (λ (n : List ℕ). (state_at n).cursor) (sym (standing_head half (half_with h b a e l) first' second')) ∙ held_cursor k (standing half (half_with h b a e l) first' second') x.0 x.1.1.0);
                  next = x.1.1.0;
                  first_room = x.1.1.1.0;
                  second_room = x.1.1.1.1;
                }
                );
            kept = (refl, con.1.0 ∙ ap (λ (n : List ℕ). (state_at n).cursor) (sym (standing_head half (half_with h b a e []) first' second')));
            number = λ bs names. numbered true is bs names;
          },
        ),
      ),
    )

    broke_answer : (x : RefusedBatch) → RanFrom k h b a e first second sets (whole_group places count) first' second' (Err x) → (r : GroupAnswer × LentHalf) → ConcludedAs (Err x) count h first'.head second'.head r → ShapedAnswer (Some r) first' second'
    unfolding conclude_group group_answer_of with_cursor
    broke_answer x ran r con = (
      RefusedAt x.place (record { disposition = x.answer.disposition; diagnostics = x.answer.diagnostics; replay_cursor = con.0 }),
      (
        Own,
        (
          ap Some con.1.1,
          record {
            became = λ m l held room room' bs names.
                let y = ran.0 m l held room room' in
                rw (group_is m bs names, y.0) (
                record {
                  same_answer = ap (λ (n : Cursor). model.refused_at x.place (with_cursor n (batch_answer_of x.answer))) (con.1.0 ∙ held_cursor k (half_with h b a e l) m held);
                  next = held;
                  first_room = y.1.0;
                  second_room = y.1.1;
                }
                );
            kept = (refl, (ran.1, con.1.0));
            number = λ bs names. numbered true is bs names;
          },
        ),
      ),
    )

    pub group_answered : (u : Result LentHalf RefusedBatch) → RanFrom k h b a e first second sets (whole_group places count) first' second' u → (r : GroupAnswer × LentHalf) → ConcludedAs u count h first'.head second'.head r → ShapedAnswer (Some r) first' second'
    group_answered (Ok half) ran r told = ended_answer half ran r told
    group_answered (Err x) ran r told = broke_answer x ran r told
