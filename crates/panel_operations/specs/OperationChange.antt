-- What an operation on the three tables of a plan answers, and what becomes of them.
use Rattle.std.specs.Prelude.{ℕ, ◌≡◌, List, [], Result, Ok, Err, OnErr}
use Rattle.spec_patch.specs.Sizes.{projection_availabilities}
use Rattle.spec_patch.specs.Patch.{unsigned, Operation}
use Rattle.spec_projection.specs.Projection.{NodeAvailability, Projection}
use Rattle.spec_projection.specs.Apply.{Outcome}
use Rattle.spec_projection.specs.Valid.{Valid}
use Rattle.projection_patch.specs.Meaning.{operation_of}
use Rattle.projection_patch.specs.declared.patch.ProjectionPatchOperation.{ProjectionPatchOperation}
use Rattle.panel_rows.specs.Rows.{availability_width, availability_row}
use Rattle.local_projection_state.specs.Stores.{Stored}
use Rattle.local_projection_state.specs.declared.ProjectionCounts.{ProjectionCounts}
use Rattle.panel_plan.specs.Plan.{with_source}
use Rattle.panel_plan.specs.PlanRows.{PlannedBindings, PlannedEntries}
use Rattle.panel_bindings.specs.Change.{Became}
use Rattle.local_projection_state.specs.declared.LocalProjectionApplicationError.{LocalProjectionApplicationError}

-- the operation with a source for its value, wherever its text stands
abbrev pub planned_operation : ℕ → ProjectionPatchOperation → Operation
planned_operation source o = with_source (unsigned source) (operation_of [] o)

-- ---- one table's answer, with the counts of all three

abbrev pub counted_change : (ℕ → ProjectionCounts) → Result ℕ LocalProjectionApplicationError → Result ProjectionCounts LocalProjectionApplicationError
counted_change put (Ok k) = Ok (put k)
counted_change put (Err e) = Err e

abbrev pub bindings_now : ProjectionCounts → ℕ → ProjectionCounts
bindings_now n k = record { bindings = k; availabilities = n.availabilities; entries = n.entries }

abbrev pub availabilities_now : ProjectionCounts → ℕ → ProjectionCounts
availabilities_now n k = record { bindings = n.bindings; availabilities = k; entries = n.entries }

abbrev pub entries_now : ProjectionCounts → ℕ → ProjectionCounts
entries_now n k = record { bindings = n.bindings; availabilities = n.availabilities; entries = k }

-- the answer of a change of one list of the projection, in its table
pub record TableChanged {A : Type 0} (Table : ℕ → List ℕ → List A → Type 0) (list : Projection → List A) (n : ℕ) (put : ℕ → ProjectionCounts)
    (entry exit : List ℕ) (apply : Projection → Outcome) (r : Result ProjectionCounts LocalProjectionApplicationError) : Type 0 where
  pub change : Result ℕ LocalProjectionApplicationError
  pub told : r ≡ counted_change put change
  pub made : (p : Projection) → Table n entry (list p) → Valid p → Became (λ k q. Table k exit (list q)) change (apply p)
  pub kept : OnErr change (exit ≡ entry)

abbrev pub BindingsChanged : ProjectionCounts → List ℕ → List ℕ → (Projection → Outcome) → Result ProjectionCounts LocalProjectionApplicationError → Type 0
BindingsChanged n = TableChanged PlannedBindings (λ (p : Projection). p.bindings) n.bindings (bindings_now n)

abbrev pub AvailabilitiesChanged : ProjectionCounts → List ℕ → List ℕ → (Projection → Outcome) → Result ProjectionCounts LocalProjectionApplicationError → Type 0
AvailabilitiesChanged n = TableChanged (Stored availability_row availability_width projection_availabilities) (λ (p : Projection). p.availabilities) n.availabilities (availabilities_now n)

abbrev pub EntriesChanged : ProjectionCounts → List ℕ → List ℕ → (Projection → Outcome) → Result ProjectionCounts LocalProjectionApplicationError → Type 0
EntriesChanged n = TableChanged PlannedEntries (λ (p : Projection). p.entries) n.entries (entries_now n)
