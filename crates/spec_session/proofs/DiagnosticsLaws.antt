-- Every refusal of a session answer has a stage, and no number past 12 has one; the numbers of reading and applying are the session's.
use Rattle.std.specs.Prelude.{ℕ, zero, suc, min, ◌≤◌, ◌<◌, ◌≡◌, refl, Bool, true, false, List, [], ◌∷◌, eqb, length, if◌then◌else◌}
use Rattle.std.proofs.Common.{sym, eqb-true, arith}
use Rattle.std.proofs.Math.Option.{none, some}
use Rattle.std.proofs.Math.ListN.{get_elem?}
use Rattle.spec_lists.specs.Lists.{or_zero}
use Rattle.spec_patch.specs.Reader.{Fault, fault_number}
use Rattle.spec_patch.specs.Reader as reading
use Rattle.spec_projection.specs.Apply.{OperationFault, operation_fault_number}
use Rattle.spec_projection.specs.Apply as applying
use Rattle.spec_session.specs.Diagnostics.{SessionRefusal, session_mismatch, session_closed, wrong_lifecycle, limit_exceeded, counts_differ, unknown_target, cursor_mismatch, key_rule, projection_full, malformed, checks_failed, over_capacity, session_number, of_reading, of_operation, stages, stage_of, Diagnostics, diagnostics_of}

pub reading_number : (f : Fault) → session_number (of_reading f) ≡ fault_number f
unfolding fault_number
reading_number reading.malformed = refl
reading_number reading.over_capacity = refl

pub operation_number : (f : OperationFault) → session_number (of_operation f) ≡ operation_fault_number f
unfolding operation_fault_number
operation_number applying.key_rule = refl
operation_number applying.projection_full = refl

-- every refusal has a stage
pub stage_of_refusal : (r : SessionRefusal) → (k : ℕ) × (stage_of (session_number r) ≡ some k)
stage_of_refusal session_mismatch = (_, refl)
stage_of_refusal session_closed = (_, refl)
stage_of_refusal wrong_lifecycle = (_, refl)
stage_of_refusal limit_exceeded = (_, refl)
stage_of_refusal counts_differ = (_, refl)
stage_of_refusal unknown_target = (_, refl)
stage_of_refusal cursor_mismatch = (_, refl)
stage_of_refusal key_rule = (_, refl)
stage_of_refusal projection_full = (_, refl)
stage_of_refusal malformed = (_, refl)
stage_of_refusal checks_failed = (_, refl)
stage_of_refusal over_capacity = (_, refl)

past_end : (l : List ℕ) (i : ℕ) → length l ≤ i → get_elem? l i ≡ none
past_end [] i h = refl
past_end (x ∷ l) zero h = absurd (omega arith)
past_end (x ∷ l) (suc i) h = past_end l i (omega arith)

-- no number past 12 has a stage
pub no_stage_above : (n : ℕ) → 12 < n → stage_of n ≡ none
no_stage_above zero h = refl
no_stage_above (suc n) h = past_end stages n (omega arith)

-- the logical count is as given, and the emitted count is the smaller of it and the cap
pub counts_of_diagnostics : (cap : ℕ) (r : SessionRefusal) (n : ℕ) → ((diagnostics_of cap r n).logical ≡ n) × ((diagnostics_of cap r n).emitted ≡ min n cap)
unfolding diagnostics_of
counts_of_diagnostics cap r n = go (eqb (min n cap) 0) refl
  where
    none' : Diagnostics
    none' = record { code = 0; stage = 0; logical = n; emitted = 0 }

    some' : Diagnostics
    some' = record { code = session_number r; stage = or_zero (stage_of (session_number r)); logical = n; emitted = min n cap }

    go : (t : Bool) → eqb (min n cap) 0 ≡ t → ((if t then none' else some').logical ≡ n) × ((if t then none' else some').emitted ≡ min n cap)
    go true e = (refl, sym (eqb-true (min n cap) 0 e))
    go false e = (refl, refl)
