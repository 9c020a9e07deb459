-- What a set does to a projection without a session, and what the code answers: 01's readings, patch checks and operations, in this order.
use Rattle.std.specs.Prelude.{ℕ, ◌≡◌, List, if◌then◌else◌, Result, Ok, Err}
use Rattle.spec_lists.specs.Lists.{is_empty}
use Rattle.spec_patch.specs.Edition.{Edition}
use Rattle.spec_patch.specs.Reader.{fault_number}
use Rattle.spec_patch.specs.Read.{SetReading, patches, fault, read_set}
use Rattle.spec_checks.specs.Findings.{findings}
use Rattle.spec_projection.specs.Projection.{Projection}
use Rattle.spec_projection.specs.Apply.{Outcome, done, stopped, operation_fault_number, replay_steps, apply_steps}
use Rattle.projection_patch.specs.ReadAnswers as reading
use Rattle.local_projection_state.specs.Stores.{Stores}
use Rattle.local_projection_state.specs.declared.LocalProjectionState.{LocalProjectionState}
use Rattle.local_projection_state.specs.Faults.{application_fault_of}
use Rattle.panel_application.specs.declared.ProjectionRefusal.{ProjectionRefusal}
use Rattle.panel_application.specs.declared.ProjectionRefusal.TheVariants.{Operation, Findings, Unreadable}

-- the projection afterwards, or the number of the refusal
pub data SetOutcome : Type 0 where
  applied : Projection → SetOutcome
  refused : ℕ → SetOutcome

unfoldable pub set_outcome : Outcome → SetOutcome
set_outcome (done q) = applied q
set_outcome (stopped f) = refused (operation_fault_number f)

-- 12 or 10; then findings are 11; then 8 or 9
unfoldable pub apply_reading : Projection → SetReading → SetOutcome
apply_reading p (fault f) = refused (fault_number f)
apply_reading p (patches ps) = if is_empty (findings ps).found then set_outcome (apply_steps p (replay_steps ps)) else refused 11

unfoldable pub apply_set : Edition → Projection → List ℕ → SetOutcome
apply_set ed p set = apply_reading p (read_set ed set)

-- ---- the answers of the code

unfoldable pub refusal_number : ProjectionRefusal → ℕ
refusal_number (Operation e) = operation_fault_number (application_fault_of e)
refusal_number Findings = 11
refusal_number (Unreadable f) = fault_number (reading.fault_of f)

-- the number of a refusal; 0 says that there is none
unfoldable pub outcome_number : Result (Unit {0}) ProjectionRefusal → ℕ
outcome_number (Ok u) = 0
outcome_number (Err r) = refusal_number r

-- the answer of steps that were all read
abbrev pub StepsBecame : LocalProjectionState → Result (Unit {0}) ProjectionRefusal → Outcome → Type 0
StepsBecame next (Ok u) (done q) = Stores next q
StepsBecame next (Ok u) (stopped f) = ⊥
StepsBecame next (Err (Operation e)) (done q) = ⊥
StepsBecame next (Err (Operation e)) (stopped f) = application_fault_of e ≡ f
StepsBecame next (Err Findings) x = ⊥
StepsBecame next (Err (Unreadable f)) x = ⊥

-- the answer of a set: the next state stores the projection afterwards, or the number is the refusal's
abbrev pub SetBecame : LocalProjectionState → Result (Unit {0}) ProjectionRefusal → SetOutcome → Type 0
SetBecame next o (applied q) = (o ≡ Ok tt) × Stores next q
SetBecame next o (refused n) = outcome_number o ≡ n

-- a refusal hands back the state that came in
abbrev pub StateKeptUnlessApplied : LocalProjectionState → LocalProjectionState → Result (Unit {0}) ProjectionRefusal → Type 0
StateKeptUnlessApplied state next (Ok u) = Unit {0}
StateKeptUnlessApplied state next (Err r) = next ≡ state
