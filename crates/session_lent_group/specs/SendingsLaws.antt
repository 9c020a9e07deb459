-- Batches on their way between halves: a batch that is sent leaves a shorter rest, which ends as the whole does.
use Rattle.std.specs.Prelude.{ℕ, ◌+◌, ◌-◌, ◌≤◌, ◌<◌, ◌≡◌, refl, length, get_or, take, drop, if◌then◌else◌, Option, Some, None, Result, Ok, Err}
use Rattle.std.proofs.Math.Path.{sym, ap}
use Rattle.std.proofs.Common.{subst, ◌∙◌, arith, drop-drop}
use mathlib.Core.List.{List, ◌∷◌}
use Rattle.spec_session.specs.Session.{Session}
use Rattle.spec_session.specs.Batch.{BatchAnswer, BatchStep}
use Rattle.spec_splitting.specs.Splitting.{is_rejected}
use Rattle.spec_group.specs.Group as model
use Rattle.spec_group.specs.Group.{total_bytes, send_first, ended, broke, run_group}
use Rattle.projection_patch.specs.Meaning.{edition_of}
use Rattle.session_gates.specs.Gates.{batch_envelope_of}
use Rattle.session_steps.specs.Answers.{disposition_told, batch_answer_of}
use Rattle.session_steps.specs.declared.answers.ProjectionPatchApplicationDisposition.{ProjectionPatchApplicationDisposition}
use Rattle.session_steps.specs.declared.answers.ProjectionPatchApplicationDisposition.TheVariants.{Applied, NoChange, Rejected}
use Rattle.session_steps.specs.declared.answers.ProjectionPatchApplicationResult.{ProjectionPatchApplicationResult}
use Rattle.session_group.specs.declared.GroupBatch.{GroupBatch}
use Rattle.session_group.specs.Groups.{batch_means, named_batch}
use Rattle.session_group.specs.GroupsLaws.{no_batch, named_cons, named_none}
use Rattle.panel_changes.specs.PlanMemory.{no_plan}
use Rattle.panel_changes.specs.PlanMemoryLaws.{no_plan_clear}
use Rattle.session_lent.specs.Batches.{NextIn, LentStep, ShapedCall}
use Rattle.session_lent.specs.Halves.{Anchors, Half, half_with, HeldIn, RoomIn}
use Rattle.session_lent.specs.HalvesLaws.{held_room, same_half}
use Rattle.session_lent_group.specs.declared.places.LentHalf.{LentHalf}
use Rattle.session_lent_group.specs.declared.places.LentHalf.TheVariants.{Own, First, Second}
use Rattle.session_lent_group.specs.declared.places.GroupLeft.{GroupLeft}
use Rattle.session_lent_group.specs.declared.places.RefusedBatch.{RefusedBatch}
use Rattle.session_lent_group.specs.Sendings.{left_batches, run_left, LeftFits, left_from, refused_at, SentOn, SentFits, RanOn, RanFits, turned_to}

-- the batch that is next
abbrev pub next_batch : GroupLeft → GroupBatch
next_batch g = get_or g.batches g.place no_batch

-- what is left behind it
abbrev pub behind_next : GroupLeft → GroupLeft
behind_next g = left_from g (g.place + 1) (g.at + (next_batch g).bytes)

module _ (g : GroupLeft) (sets : List ℕ) (fits : LeftFits g sets) where
  -- none is left behind the last
  pub rest_none : g.count ≤ g.place → (m : Session) → run_left g m sets ≡ ended m
  unfolding run_group
  rest_none done m = ap (λ (l : List model.GroupBatch). run_group g.place m l (drop g.at sets)) (named_none g.count g.batches fits.named g.place done)

  module _ (more : g.place < g.count) where
    rest_parted : left_batches g ≡ batch_means (next_batch g) ∷ drop (g.place + 1) (named_batch g.count g.batches)
    rest_parted = named_cons g.count g.batches fits.named g.place more

    -- the next set lies in what is left
    pub rest_room : g.at + (next_batch g).bytes ≤ length sets
    unfolding total_bytes
    rest_room = omega (arith, fits.bytes, ap total_bytes rest_parted)

    pub rest_next : LeftFits (behind_next g) sets
    unfolding total_bytes
    rest_next = record { few = fits.few; named = fits.named; reached = omega (arith, more); bytes = omega (arith, fits.bytes, ap total_bytes rest_parted) }

    module _ (m : Session) where
      abbrev first : BatchStep
      first = send_first m (batch_means (next_batch g)) (drop g.at sets)

      run_over : run_left g m sets ≡ (if is_rejected first.answer.disposition then broke g.place first.answer else run_left (behind_next g) first.next sets)
      unfolding run_group
      run_over =
          ap (λ (l : List model.GroupBatch). run_group g.place m l (drop g.at sets)) rest_parted
          ∙ ap (λ (d : List ℕ). if is_rejected first.answer.disposition then broke g.place first.answer else run_group (g.place + 1) first.next (drop (g.place + 1) (named_batch g.count g.batches)) d) (drop-drop (next_batch g).bytes g.at sets)

      module _ (k : Anchors) (r : ProjectionPatchApplicationResult) (to : Half) (step : LentStep r m to.head k.nodes k.pairs k.collections to.bindings to.availability to.entries to.lengths first) where
        told : (d : ProjectionPatchApplicationDisposition) → r.disposition ≡ d → is_rejected first.answer.disposition ≡ is_rejected (disposition_told d)
        told d is = ap (λ (a : BatchAnswer). is_rejected a.disposition) (sym step.answer) ∙ ap (λ x. is_rejected (disposition_told x)) is

        next_in : (d : ProjectionPatchApplicationDisposition) → r.disposition ≡ d → NextIn d m first.next to.head k.nodes k.pairs k.collections to.bindings to.availability to.entries to.lengths
        next_in d is = subst (λ x. NextIn x m first.next to.head k.nodes k.pairs k.collections to.bindings to.availability to.entries to.lengths) is step.next

        pub rest_refused : r.disposition ≡ Rejected → run_left g m sets ≡ broke g.place (batch_answer_of r)
        unfolding is_rejected disposition_told
        rest_refused is = run_over ∙ rw (told Rejected is) (ap (broke g.place) (sym step.answer))

        -- the other half has the next session
        pub rest_applied : r.disposition ≡ Applied → (next : Session) × (HeldIn k to next × (run_left (behind_next g) next sets ≡ run_left g m sets))
        unfolding is_rejected disposition_told
        rest_applied is = (first.next, (next_in Applied is, sym (run_over ∙ rw (told Applied is) refl)))

        -- the session stays
        pub rest_unchanged : r.disposition ≡ NoChange → run_left (behind_next g) m sets ≡ run_left g m sets
        unfolding is_rejected disposition_told
        rest_unchanged is = sym (run_over ∙ rw (told NoChange is) (ap (λ (s : Session). run_left (behind_next g) s sets) (next_in NoChange is)))

-- ---- batches that change nothing, one after the other

-- the dispositions differ
abbrev differs : ProjectionPatchApplicationDisposition → ℕ
differs Applied = 0
differs NoChange = 1
differs Rejected = 1

not_applied : (d e : ProjectionPatchApplicationDisposition) → d ≡ e → differs e ≡ 1 → d ≡ Applied → ⊥
not_applied d e is one e' = let z : ◌≡◌ {A = ℕ} 0 1 = ap differs (sym e' ∙ is) ∙ one in omega arith

-- up to a place nothing was changed: the half to be written to is as it was, and what is left ends as the whole does
pub record UnchangedUpTo (k : Anchors) (h b a e : List ℕ) (sets : List ℕ) (g : GroupLeft) (place at : ℕ) (before now : Half) : Type 0 where
  pub later : g.place ≤ place
  pub fits : LeftFits (left_from g place at) sets
  pub kept : now ≡ before
  pub same : (m : Session) (l : List ℕ) → HeldIn k (half_with h b a e l) m → RoomIn before → run_left (left_from g place at) m sets ≡ run_left g m sets

-- what the contract says of an answer
abbrev pub SentAs : Anchors → (h b a e : List ℕ) → List ℕ → GroupLeft → (before after : Half) → Result (Option (ℕ × ℕ)) RefusedBatch → Type 0
SentAs k h b a e sets g before after r =
    ((m : Session) (l : List ℕ) → HeldIn k (half_with h b a e l) m → RoomIn before → SentOn r k after g sets m (run_left g m sets)) × SentFits r g sets before after

module _ (k : Anchors) (h b a e : List ℕ) (sets : List ℕ) (g : GroupLeft) where
  pub unchanged_start : (to : Half) → LeftFits g sets → UnchangedUpTo k h b a e sets g g.place g.at to to
  unchanged_start to fits = record { later = omega arith; fits = fits; kept = refl; same = λ m l held room. refl }

  module _ {place at : ℕ} {before now : Half} (on : UnchangedUpTo k h b a e sets g place at before now) where
    pub sent_ended : g.count ≤ place → SentAs k h b a e sets g before now (Ok None)
    sent_ended done = (λ m l held room. sym (on.same m l held room) ∙ rest_none (left_from g place at) sets on.fits done m, on.kept)

    module _ (more : place < g.count) (r : ProjectionPatchApplicationResult) (after : Half)
        (call : ShapedCall (edition_of (next_batch (left_from g place at)).edition) (batch_envelope_of (next_batch (left_from g place at)).envelope) (next_batch (left_from g place at)).declared_target_reference_count (take (next_batch (left_from g place at)).bytes (drop at sets))
        h k.nodes k.pairs k.collections b a e now.head now.bindings now.availability now.entries now.lengths no_plan r after.head after.bindings after.availability after.entries after.lengths) where
      step_in : (m : Session) (l : List ℕ) → HeldIn k (half_with h b a e l) m → RoomIn before → LentStep r m after.head k.nodes k.pairs k.collections after.bindings after.availability after.entries after.lengths (send_first m (batch_means (next_batch (left_from g place at))) (drop at sets))
      unfolding send_first
      step_in m l held room = call.became m l held (subst RoomIn (sym on.kept) room) no_plan_clear

      stays : (r.disposition ≡ Applied → ⊥) → after ≡ before
      stays not = same_half (call.kept not) ∙ on.kept

      pub sent_moved : r.disposition ≡ Applied → SentAs k h b a e sets g before after (Ok (Some (place + 1, at + (next_batch (left_from g place at)).bytes)))
      sent_moved is = (
        λ m l held room.
            let x = rest_applied (left_from g place at) sets on.fits more m k r after (step_in m l held room) is in
            (x.0, (x.1.0, x.1.1 ∙ on.same m l held room)),
        (omega (arith, on.later), rest_next (left_from g place at) sets on.fits more),
      )

      pub sent_broke : r.disposition ≡ Rejected → SentAs k h b a e sets g before after (Err (refused_at place r))
      sent_broke is = (
        λ m l held room. sym (on.same m l held room) ∙ rest_refused (left_from g place at) sets on.fits more m k r after (step_in m l held room) is,
        (more, stays (not_applied r.disposition Rejected is refl)),
      )

      pub unchanged_next : r.disposition ≡ NoChange → UnchangedUpTo k h b a e sets g (place + 1) (at + (next_batch (left_from g place at)).bytes) before after
      unchanged_next is = record {
        later = omega (arith, on.later);
        fits = rest_next (left_from g place at) sets on.fits more;
        kept = stays (not_applied r.disposition NoChange is refl);
        same = λ m l held room. rest_unchanged (left_from g place at) sets on.fits more m k r after (step_in m l held room) is ∙ on.same m l held room;
      }

-- ---- runs

-- a run told with the halves exchanged
pub exchanged_run : (r : Result LentHalf RefusedBatch) (k : Anchors) (own first second : Half) (whole : model.GroupRun) → RanOn r k own first second whole → RanOn (turned_to r) k own second first whole
exchanged_run (Ok Own) k own first second whole h = (h.0, (h.1.0, (h.1.1.0, (h.1.1.1.1, h.1.1.1.0))))
exchanged_run (Ok First) k own first second whole h = (h.0, (h.1.0, (h.1.1.0, (h.1.1.1.1, h.1.1.1.0))))
exchanged_run (Ok Second) k own first second whole h = (h.0, (h.1.0, (h.1.1.0, (h.1.1.1.1, h.1.1.1.0))))
exchanged_run (Err x) k own first second whole h = (h.0, (h.1.1, h.1.0))

pub exchanged_fits : (r : Result LentHalf RefusedBatch) (count : ℕ) → RanFits r count → RanFits (turned_to r) count
exchanged_fits (Ok Own) count h = h
exchanged_fits (Ok First) count h = h
exchanged_fits (Ok Second) count h = h
exchanged_fits (Err x) count h = h

-- what the contract says of batches between two halves, the first of which has the session
abbrev pub RanBetween : Anchors → (from to : Half) → List ℕ → GroupLeft → (from' to' : Half) → Result LentHalf RefusedBatch → Type 0
RanBetween k from to sets g from' to' r = ((m : Session) → HeldIn k from m → RoomIn to → (own : Half) → RanOn r k own from' to' (run_left g m sets)) × RanFits r g.count

module _ (k : Anchors) (from to to' : Half) (sets : List ℕ) (g : GroupLeft) where
  abbrev SentTo : Result (Option (ℕ × ℕ)) RefusedBatch → Type 0
  SentTo r = SentAs k from.head from.bindings from.availability from.entries sets g to to' r

  pub between_ended : SentTo (Ok None) → RanBetween k from to sets g from to' (Ok First)
  between_ended sent = (λ m held room own. (m, (sent.0 m from.lengths held room, (held, (held_room k from m held, subst RoomIn (sym sent.1) room)))), tt)

  pub between_broke : (x : RefusedBatch) → SentTo (Err x) → RanBetween k from to sets g from to' (Err x)
  between_broke x sent = (λ m held room own. (sent.0 m from.lengths held room, (held_room k from m held, subst RoomIn (sym sent.1.1) room)), sent.1.0)

  -- the rest goes from the other half back
  pub between_moved : (place at : ℕ) → SentTo (Ok (Some (place, at))) → (from'' to'' : Half) (r : Result LentHalf RefusedBatch) → RanBetween k to' from sets (left_from g place at) to'' from'' r → RanBetween k from to sets g from'' to'' (turned_to r)
  between_moved place at sent from'' to'' r rest = (
    λ m held room own.
        let x = sent.0 m from.lengths held room in
        subst (RanOn (turned_to r) k own from'' to'') x.1.1 (exchanged_run r k own to'' from'' (run_left (left_from g place at) x.0 sets) (rest.0 x.0 x.1.0 (held_room k from m held) own)),
    exchanged_fits r g.count rest.1,
  )

-- what the contract says of batches from the own half
abbrev pub RanFrom : Anchors → (h b a e : List ℕ) (first second : Half) → List ℕ → GroupLeft → (first' second' : Half) → Result LentHalf RefusedBatch → Type 0
RanFrom k h b a e first second sets g first' second' r =
    ((m : Session) (l : List ℕ) → HeldIn k (half_with h b a e l) m → RoomIn first → RoomIn second → RanOn r k (half_with h b a e l) first' second' (run_left g m sets)) × RanFits r g.count

module _ (k : Anchors) (h b a e : List ℕ) (first second first' : Half) (sets : List ℕ) (g : GroupLeft) where
  pub own_ended : SentAs k h b a e sets g first first' (Ok None) → RanFrom k h b a e first second sets g first' second (Ok Own)
  own_ended sent = (λ m l held room room'. (m, (sent.0 m l held room, (held, (subst RoomIn (sym sent.1) room, room')))), tt)

  pub own_broke : (x : RefusedBatch) → SentAs k h b a e sets g first first' (Err x) → RanFrom k h b a e first second sets g first' second (Err x)
  own_broke x sent = (λ m l held room room'. (sent.0 m l held room, (subst RoomIn (sym sent.1.1) room, room')), sent.1.0)

  pub own_moved : (place at : ℕ) → SentAs k h b a e sets g first first' (Ok (Some (place, at))) → (first'' second'' : Half) (r : Result LentHalf RefusedBatch) → RanBetween k first' second sets (left_from g place at) first'' second'' r → RanFrom k h b a e first second sets g first'' second'' r
  own_moved place at sent first'' second'' r rest = (
    λ m l held room room'.
        let x = sent.0 m l held room in
        subst (RanOn r k (half_with h b a e l) first'' second'') x.1.1 (rest.0 x.0 x.1.0 room' (half_with h b a e l)),
    rest.1,
  )

-- fewer are left
pub fewer_left : (g next : GroupLeft) (place at t : ℕ) → next ≡ left_from g place at → g.place < place → place ≤ g.count → g.count - g.place ≡ t → next.count - next.place < t
fewer_left g next place at t is more few all = subst (λ (x : GroupLeft). x.count - x.place < t) (sym is) (omega (arith, more, few, all))
