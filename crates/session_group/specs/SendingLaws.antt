-- Batches sent one after the other: what is left of them ends as the whole group does.
use Rattle.std.specs.Prelude.{ℕ, ◌+◌, ◌≤◌, ◌≡◌, refl, true, false, length, take}
use Rattle.std.proofs.Math.Path.{sym, ap, ap₂}
use Rattle.std.proofs.Common.{◌∙◌, arith, drop-drop}
use mathlib.Core.List.{List, [], ◌∷◌}
use Rattle.std.proofs.Math.ListN.{drop}
use Rattle.spec_session.specs.Session.{Cursor, Session}
use Rattle.spec_session.specs.Lifecycle.{LocalState, state_of}
use Rattle.spec_session.specs.Batch.{BatchAnswer}
use Rattle.spec_splitting.specs.Splitting.{is_rejected}
use Rattle.spec_group.specs.Group as model
use Rattle.spec_group.specs.Group.{total_bytes, send_first, ended, broke, run_group, with_cursor, conclude_group, group}
use Rattle.projection_patch.specs.Meaning.{edition_of}
use Rattle.session_lifecycle.specs.Meaning.{cursor_of}
use Rattle.session_steps.specs.Answers.{disposition_told}
use Rattle.shell_player.specs.declared.session.ShellSession.{ShellSession}
use Rattle.shell_player.specs.declared.batch.ProjectionPatchBatch.{ProjectionPatchBatch}
use Rattle.shell_player.specs.Holds.{Holds}
use Rattle.shell_player.specs.Batches.{BatchBecame, BatchCall}
use Rattle.session_group.specs.declared.GroupBatch.{GroupBatch}
use Rattle.session_group.specs.declared.ProjectionPatchGroup.{ProjectionPatchGroup}
use Rattle.session_group.specs.Groups.{batch_means, named_batch, Names, names_group, group_answer_of, no_group, all_taken, first_refused, GroupBecame}
use Rattle.session_group.specs.GroupsLaws.{group_named, names_all, names_group_lem}

holds_cursor : (s : ShellSession) (m : Session) → Holds s m → cursor_of s.state.replay_cursor ≡ m.cursor
unfolding state_of
holds_cursor s m h = ap (λ (t : LocalState). t.cursor) h.state

-- a session that the struct stores now, from which the batches left end as all of them do from the first
pub record SentSoFar (next : ShellSession) (bs : List model.GroupBatch) (sets : List ℕ) (at place : ℕ) (m : Session) : Type 0 where
  pub session : Session
  pub holds : Holds next session
  pub same : run_group place session (drop place bs) (drop at sets) ≡ run_group 0 m bs sets

-- the batches before a place were taken, and the sets of the others begin at this byte
pub record Sending (s next : ShellSession) (bs : List model.GroupBatch) (sets : List ℕ) (at place : ℕ) : Type 0 where
  pub fits : at + total_bytes (drop place bs) ≡ length sets
  pub reached : (m : Session) → Holds s m → SentSoFar next bs sets at place m

pub sending_start : (s : ShellSession) (bs : List model.GroupBatch) (sets : List ℕ) → total_bytes bs ≡ length sets → Sending s s bs sets 0 0
sending_start s bs sets fits = record { fits = omega (arith, fits); reached = λ m h. record { session = m; holds = h; same = refl } }

module _ {s next : ShellSession} {bs : List model.GroupBatch} {sets : List ℕ} {at place : ℕ} (sending : Sending s next bs sets at place) where
  -- all were taken
  pub sending_end : (count : ℕ) → drop place bs ≡ [] → (m : Session) → Holds s m → GroupBecame (all_taken next count) (conclude_group m count (run_group 0 m bs sets))
  unfolding run_group conclude_group group_answer_of
  sending_end count none m h =
      let k = sending.reached m h in
      let run : run_group 0 m bs sets ≡ ended k.session = sym k.same ∙ ap (λ (l : List model.GroupBatch). run_group place k.session l (drop at sets)) none in
      rw run (record { answer = ap (model.taken count) (holds_cursor next k.session k.holds); next = k.holds })

  module _ (b : GroupBatch) (parted : drop place bs ≡ batch_means b ∷ drop (place + 1) bs) where
    -- the next set lies in what is left
    pub sending_fits : at + b.bytes ≤ length sets
    unfolding total_bytes
    sending_fits = omega (arith, sending.fits, ap total_bytes parted)

    module _ (step : ProjectionPatchBatch) (call : BatchCall next b.envelope b.declared_target_reference_count (take b.bytes (drop at sets)) (edition_of b.edition) step) where
      -- the call is the sending of the first batch left
      sent : (k : Session) → Holds next k → BatchBecame step (send_first k (batch_means b) (drop at sets))
      unfolding send_first
      sent k h = call.became k h

      told : (k : Session) → Holds next k → is_rejected (send_first k (batch_means b) (drop at sets)).answer.disposition ≡ is_rejected (disposition_told step.result.disposition)
      told k h = ap (λ (a : BatchAnswer). is_rejected a.disposition) (sym (sent k h).answer)

      -- a batch that was taken
      pub sending_next : is_rejected (disposition_told step.result.disposition) ≡ false → Sending s step.session bs sets (at + b.bytes) (place + 1)
      unfolding total_bytes run_group
      sending_next taken = record {
        fits = omega (arith, sending.fits, ap total_bytes parted);
        reached = λ m h.
            let k = sending.reached m h in
            let step-over : run_group place k.session (batch_means b ∷ drop (place + 1) bs) (drop at sets) ≡ run_group (place + 1) (send_first k.session (batch_means b) (drop at sets)).next (drop (place + 1) bs) (drop b.bytes (drop at sets)) = rw (told k.session k.holds ∙ taken) in
            record {
              session = (send_first k.session (batch_means b) (drop at sets)).next;
              holds = (sent k.session k.holds).next;
              same = ap (run_group (place + 1) (send_first k.session (batch_means b) (drop at sets)).next (drop (place + 1) bs)) (sym (drop-drop b.bytes at sets))
                  ∙ sym step-over
                  ∙ ap (λ (l : List model.GroupBatch). run_group place k.session l (drop at sets)) (sym parted)
                  ∙ k.same;
            };
      }

      -- a batch that was rejected leaves the session from before the group
      pub sending_refused : (count : ℕ) → is_rejected (disposition_told step.result.disposition) ≡ true → (m : Session) → Holds s m → GroupBecame (first_refused s place step.result) (conclude_group m count (run_group 0 m bs sets))
      unfolding run_group conclude_group group_answer_of with_cursor
      sending_refused count refused m h =
          let k = sending.reached m h in
          let first = send_first k.session (batch_means b) (drop at sets) in
          let run : run_group 0 m bs sets ≡ broke place first.answer = sym k.same ∙ ap (λ (l : List model.GroupBatch). run_group place k.session l (drop at sets)) parted ∙ rw (told k.session k.holds ∙ refused) in
          rw run (record { answer = ap₂ (λ (c : Cursor) (a : BatchAnswer). model.refused_at place (with_cursor c a)) (holds_cursor s m h) (sent k.session k.holds).answer; next = h })

-- ---- the whole call

module _ (s : ShellSession) {count : ℕ} {places : List GroupBatch} (sets : List ℕ) (m : Session) (holds : Holds s m) (bs : List model.GroupBatch) (names : Names count places bs) where
  pub group_refused : names_group count places (length sets) ≡ false → GroupBecame (no_group s) (group m bs sets)
  unfolding group group_answer_of
  group_refused e = rw (names_group_lem names sets ∙ e) (record { answer = refl; next = holds })

  pub group_sent : (r : ProjectionPatchGroup) → names_group count places (length sets) ≡ true → GroupBecame r (conclude_group m count (run_group 0 m (named_batch count places) sets)) → GroupBecame r (group m bs sets)
  unfolding group
  group_sent r e became =
      let few = (group_named count places (length sets) e).0 in
      rw (names_group_lem names sets ∙ e, names.many, names_all names few) became
