-- The laws on a turn's number speak of something: a batch of one patch that passes all steps but the cursor's, in a session at 4 and in one at the
-- cursor's end.
use Rattle.std.specs.Prelude.{ℕ, ◌≡◌, refl, List, [], ◌∷◌}
use Rattle.std.proofs.Common.{arith}
use Rattle.spec_patch.specs.Sizes.{largest_u64}
use Rattle.spec_patch.specs.Patch.{Patch}
use Rattle.spec_patch.specs.Edition.{v1}
use Rattle.spec_patch.specs.Encode.{encode}
use Rattle.spec_session.specs.Session.{Cursor, at, Session}
use Rattle.spec_session.specs.Diagnostics.{cursor_mismatch}
use Rattle.spec_session.specs.Batch.{BatchEnvelope, pass, refuse, batch_checks}
use Rattle.spec_turns.specs.Turns.{number_after}
use Rattle.spec_turns.specs.Numbers.{at_last_number, without_cursor}
use Rattle.spec_turns.proofs.NumberLaws.{turn_number_passes, turn_number_at_end, no_patches_pass}
use Rattle.spec_examples.specs.Opened.{opened_all}
use Rattle.spec_examples.proofs.SplitInstances.{patch_numbered, start_session, second}

-- the session of the split lists, with a cursor
unfoldable pub start_at : Cursor → Session
start_at c = record { id = start_session.id; limits = start_session.limits; catalogue = start_session.catalogue; lifecycle = start_session.lifecycle; cursor = c; projection = start_session.projection }

abbrev pub patches : List Patch
patches = second ∷ []

unfoldable pub turn_envelope : ℕ → ℕ → BatchEnvelope
turn_envelope n count = record { session = 7; sequence = n; patches = count; stimulus_bytes = 50 }

-- but for its number the batch passes
pub one_patch : (c : Cursor) (n : ℕ) → batch_checks v1 (without_cursor (start_at c)) (turn_envelope n 1) 1 (encode v1 patches) ≡ pass patches
unfolding opened_all start_at turn_envelope without_cursor start_session second patch_numbered
one_patch c n = refl

pub no_patch_passes : (c : Cursor) (n : ℕ) → batch_checks v1 (without_cursor (start_at c)) (turn_envelope n 0) 0 (encode v1 []) ≡ pass []
unfolding opened_all start_at turn_envelope without_cursor start_session
no_patch_passes c n = refl

-- at 4 the turn's number is 5, and the batch passes with it
pub passes_at_4 : batch_checks v1 (start_at (at 4)) (turn_envelope 5 1) 1 (encode v1 patches) ≡ pass patches
unfolding start_at turn_envelope at_last_number number_after
passes_at_4 = turn_number_passes v1 (start_at (at 4)) (turn_envelope 5 1) 1 (encode v1 patches) patches (omega arith) refl refl (one_patch (at 4) 5)

-- at the end it is the largest again: 7 with a patch, and without one it passes
pub mismatch_at_end : batch_checks v1 (start_at (at largest_u64)) (turn_envelope largest_u64 1) 1 (encode v1 patches) ≡ refuse cursor_mismatch 1
unfolding start_at turn_envelope at_last_number
mismatch_at_end = turn_number_at_end v1 (start_at (at largest_u64)) (turn_envelope largest_u64 1) 1 (encode v1 patches) patches refl (λ e. absurd (omega arith)) (one_patch (at largest_u64) largest_u64)

pub passes_at_end : batch_checks v1 (start_at (at largest_u64)) (turn_envelope largest_u64 0) 0 (encode v1 []) ≡ pass []
unfolding turn_envelope
passes_at_end = no_patches_pass v1 (start_at (at largest_u64)) (turn_envelope largest_u64 0) 0 (encode v1 []) [] refl (no_patch_passes (at largest_u64) largest_u64)
