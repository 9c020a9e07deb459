-- The listing of a set, by what the set does to an empty projection.
use Rattle.std.specs.Prelude.{Result}
use Rattle.std.specs.Prelude.{ℕ, ◌≡◌, refl, Bool, true, false, List, if◌then◌else◌}
use Rattle.std.proofs.Common.{sym, ◌∙◌, arith}
use Rattle.std.proofs.Math.Path.{ap}
use Rattle.spec_lists.specs.Lists.{is_empty}
use Rattle.spec_patch.specs.Edition.{Edition}
use Rattle.spec_patch.specs.Patch.{Patch}
use Rattle.spec_patch.specs.Reader.{Fault, malformed, over_capacity, fault_number}
use Rattle.spec_patch.specs.Read.{SetReading, patches, fault, read_set}
use Rattle.spec_checks.specs.Findings.{findings}
use Rattle.spec_projection.specs.Projection.{Projection, empty}
use Rattle.spec_projection.specs.Apply.{Outcome, done, stopped, key_rule, projection_full, operation_fault_number, apply_steps, replay_steps}
use Rattle.spec_listing.specs.Listing.{projection_lines, refusal_line, outcome_lines, reading_lines, listing}
use Rattle.local_projection_state.specs.Stores.{Stores}
use Rattle.local_projection_state.specs.declared.LocalProjectionState.{LocalProjectionState}
use Rattle.panel_application.specs.Application.{SetOutcome, applied, refused, set_outcome, apply_reading, apply_set, outcome_number, SetBecame}
use Rattle.panel_application.specs.declared.ProjectionRefusal.{ProjectionRefusal}

-- the lines of what came of a set
unfoldable pub set_lines : SetOutcome → List ℕ
set_lines (applied p) = projection_lines p
set_lines (refused n) = refusal_line n

outcome_lines_lem : (x : Outcome) → outcome_lines x ≡ set_lines (set_outcome x)
unfolding outcome_lines set_lines set_outcome
outcome_lines_lem (done p) = refl
outcome_lines_lem (stopped f) = refl

-- the listing is that of applying the set
pub listing_applies : (ed : Edition) (set : List ℕ) → listing ed set ≡ set_lines (apply_set ed empty set)
unfolding listing reading_lines apply_set apply_reading set_lines
listing_applies ed set = by_reading (read_set ed set)
  where
    by_findings : (ps : List Patch) (t : Bool)
        → (if t then outcome_lines (apply_steps empty (replay_steps ps)) else refusal_line 11) ≡ set_lines (if t then set_outcome (apply_steps empty (replay_steps ps)) else refused 11)
    by_findings ps true = outcome_lines_lem (apply_steps empty (replay_steps ps))
    by_findings ps false = refl

    by_reading : (r : SetReading) → reading_lines r ≡ set_lines (apply_reading empty r)
    by_reading (fault f) = refl
    by_reading (patches ps) = by_findings ps (is_empty (findings ps).found)

-- ---- 0 is no refusal's number

-- the outcome is no refusal of number 0
abbrev NumberedOutcome : SetOutcome → Type 0
NumberedOutcome (applied p) = Unit {0}
NumberedOutcome (refused n) = n ≡ 0 → ⊥

fault_numbered : (f : Fault) → fault_number f ≡ 0 → ⊥
unfolding fault_number
fault_numbered malformed e = omega arith
fault_numbered over_capacity e = omega arith

outcome_numbered : (x : Outcome) → NumberedOutcome (set_outcome x)
unfolding set_outcome operation_fault_number
outcome_numbered (done p) = tt
outcome_numbered (stopped key_rule) = λ e. omega arith
outcome_numbered (stopped projection_full) = λ e. omega arith

set_numbered : (ed : Edition) (set : List ℕ) → NumberedOutcome (apply_set ed empty set)
unfolding apply_set apply_reading
set_numbered ed set = by_reading (read_set ed set)
  where
    by_findings : (ps : List Patch) (t : Bool) → NumberedOutcome (if t then set_outcome (apply_steps empty (replay_steps ps)) else refused 11)
    by_findings ps true = outcome_numbered (apply_steps empty (replay_steps ps))
    by_findings ps false = λ e. omega arith

    by_reading : (r : SetReading) → NumberedOutcome (apply_reading empty r)
    by_reading (fault f) = fault_numbered f
    by_reading (patches ps) = by_findings ps (is_empty (findings ps).found)

-- ---- the listing by the answer of the code

-- a state that stores what the listing shows
pub record ShowsLines (ed : Edition) (set : List ℕ) (next : LocalProjectionState) : Type 0 where
  pub projection : Projection
  pub stores : Stores next projection
  pub lines : listing ed set ≡ projection_lines projection

module _ (ed : Edition) (set : List ℕ) (next : LocalProjectionState) (o : Result (Unit {0}) ProjectionRefusal) (became : SetBecame next o (apply_set ed empty set)) where
  pub set_applied : outcome_number o ≡ 0 → ShowsLines ed set next
  unfolding set_lines
  set_applied zero = go (apply_set ed empty set) (listing_applies ed set) (set_numbered ed set) became
    where
      go : (x : SetOutcome) → listing ed set ≡ set_lines x → NumberedOutcome x → SetBecame next o x → ShowsLines ed set next
      go (applied q) e n b = record { projection = q; stores = b.1; lines = e }
      go (refused m) e n b = absurd (n (sym b ∙ zero))

  pub set_refused : (outcome_number o ≡ 0 → ⊥) → listing ed set ≡ refusal_line (outcome_number o)
  unfolding set_lines outcome_number
  set_refused other = go (apply_set ed empty set) (listing_applies ed set) became
    where
      go : (x : SetOutcome) → listing ed set ≡ set_lines x → SetBecame next o x → listing ed set ≡ refusal_line (outcome_number o)
      go (applied q) e b = absurd (other (ap outcome_number b.0))
      go (refused m) e b = e ∙ ap refusal_line (sym b)
