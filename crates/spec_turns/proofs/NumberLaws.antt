-- A turn's number is the one that the cursor check, step 8 of a batch, takes.
use Rattle.std.specs.Prelude.{ℕ, ◌+◌, ◌≤◌, ◌<◌, ◌≡◌, refl, Bool, true, false, ◌||◌, List, ltb, eqb, if◌then◌else◌}
use Rattle.std.proofs.Common.{ap, ◌∙◌, arith, ltb-true, eqb-true, lt-ltb, le-ltb, eq-eqb, ne_eqb}
use Rattle.std.proofs.lemmas.Bool.{eqb-false}
use Rattle.spec_lists.proofs.ListLaws.{and_left, and_right, or_true}
use Rattle.spec_patch.specs.Sizes.{largest_u64}
use Rattle.spec_patch.specs.Patch.{Patch}
use Rattle.spec_patch.specs.Edition.{Edition}
use Rattle.spec_session.specs.Session.{Cursor, uninitialized, at, Session}
use Rattle.spec_session.specs.Diagnostics.{cursor_mismatch}
use Rattle.spec_session.specs.Batch.{BatchEnvelope, pass, refuse, ◌>>◌, require, readable, known_targets, takes_number, batch_checks}
use Rattle.spec_session.proofs.BatchLaws.{checks_passed}
use Rattle.spec_session.specs.ValidSession.{CursorFits}
use Rattle.spec_turns.specs.Turns.{number_after}
use Rattle.spec_turns.specs.Numbers.{at_last_number, without_cursor}

-- it is a u64 and not 0
pub number_fits : (c : Cursor) → (1 ≤ number_after c) × (number_after c ≤ largest_u64)
unfolding number_after
number_fits uninitialized = omega arith
number_fits (at m) = go (ltb m largest_u64) refl
  where
    go : (t : Bool) → ltb m largest_u64 ≡ t → (1 ≤ (if t then m + 1 else largest_u64)) × ((if t then m + 1 else largest_u64) ≤ largest_u64)
    go true e = omega (arith, ltb-true m largest_u64 e)
    go false e = omega arith

-- before its end the cursor takes that number
pub number_taken : (c : Cursor) → CursorFits c → at_last_number c ≡ false → takes_number c (number_after c) ≡ true
unfolding takes_number number_after at_last_number
number_taken uninitialized h e = refl
number_taken (at m) h e =
    let below : m < largest_u64 = below_end (eqb m largest_u64) refl e in
    rw (lt-ltb m largest_u64 below, eq-eqb (m + 1) (m + 1) refl)
  where
    below_end : (t : Bool) → eqb m largest_u64 ≡ t → t ≡ false → m < largest_u64
    below_end true q e = let z : ◌≡◌ {A = ℕ} 0 1 = cc in absurd (omega arith)
    below_end false q e = omega (arith, h, eqb-false m largest_u64 q)

-- and, once there is one, no other
pub number_only : (m n : ℕ) → takes_number (at m) n ≡ true → n ≡ number_after (at m)
unfolding takes_number number_after
number_only m n e = rw (and_left (ltb m largest_u64) (eqb n (m + 1)) e) (eqb-true n (m + 1) (and_right (ltb m largest_u64) (eqb n (m + 1)) e))

-- at its end the number is the largest again, and the cursor takes none
pub number_at_end : (c : Cursor) → at_last_number c ≡ true → (number_after c ≡ largest_u64) × ((n : ℕ) → takes_number c n ≡ false)
unfolding takes_number number_after at_last_number
number_at_end uninitialized e = let z : ◌≡◌ {A = ℕ} 0 1 = cc in absurd (omega arith)
number_at_end (at m) e =
    let all-used = le-ltb m largest_u64 (omega (arith, eqb-true m largest_u64 e)) in
    (rw all-used, λ n. rw all-used)

-- ---- in a batch that passes all other steps

-- step 8 alone decides
step_8 : (ed : Edition) (s : Session) (e : BatchEnvelope) (references : ℕ) (set : List ℕ) (ps : List Patch) → batch_checks ed (without_cursor s) e references set ≡ pass ps
    → batch_checks ed s e references set ≡ (require (eqb e.patches 0 || takes_number s.cursor e.sequence) cursor_mismatch >> pass ps)
unfolding batch_checks without_cursor require readable known_targets
step_8 ed s e references set ps h =
    let c = checks_passed ed (without_cursor s) e references set ps h in
    rw (c.session, c.is_open, c.limits, c.reads, c.clean, c.counts, c.few_references, c.targets)

-- before the cursor's end a batch of the turn's number passes
pub turn_number_passes : (ed : Edition) (s : Session) (e : BatchEnvelope) (references : ℕ) (set : List ℕ) (ps : List Patch) → CursorFits s.cursor → at_last_number s.cursor ≡ false
    → e.sequence ≡ number_after s.cursor → batch_checks ed (without_cursor s) e references set ≡ pass ps → batch_checks ed s e references set ≡ pass ps
unfolding require
turn_number_passes ed s e references set ps holds below number h =
    step_8 ed s e references set ps h ∙ ap (λ t. require t cursor_mismatch >> pass ps) (or_true (eqb e.patches 0) _ (rw number (number_taken s.cursor holds below)))

-- at its end one with patches gives 7, whatever its number
pub turn_number_at_end : (ed : Edition) (s : Session) (e : BatchEnvelope) (references : ℕ) (set : List ℕ) (ps : List Patch) → at_last_number s.cursor ≡ true → (e.patches ≡ 0 → ⊥)
    → batch_checks ed (without_cursor s) e references set ≡ pass ps → batch_checks ed s e references set ≡ refuse cursor_mismatch 1
unfolding require
turn_number_at_end ed s e references set ps end more h =
    step_8 ed s e references set ps h ∙ rw (ne_eqb e.patches 0 more, (number_at_end s.cursor end).1 e.sequence)

-- and one without patches passes, whatever the cursor
pub no_patches_pass : (ed : Edition) (s : Session) (e : BatchEnvelope) (references : ℕ) (set : List ℕ) (ps : List Patch) → e.patches ≡ 0
    → batch_checks ed (without_cursor s) e references set ≡ pass ps → batch_checks ed s e references set ≡ pass ps
unfolding require
no_patches_pass ed s e references set ps none h = step_8 ed s e references set ps h ∙ rw (eq-eqb e.patches 0 none)
