-- What an operation on a lent table answers, and what becomes of the table.
use Rattle.std.specs.Prelude.{ℕ, ◌≤◌, ◌<◌, ◌≡◌, List, length, Result, Ok, Err}
use Rattle.spec_projection.specs.Projection.{Projection}
use Rattle.spec_projection.specs.Apply.{Outcome, done, stopped}
use Rattle.bytes_records.specs.Table.{HoldsRows}
use Rattle.local_projection_state.specs.Faults.{application_fault_of}
use Rattle.local_projection_state.specs.declared.LocalProjectionApplicationError.TheVariants.{ProjectionFull}
use Rattle.local_projection_state.specs.declared.LocalProjectionApplicationError.{LocalProjectionApplicationError}

-- the answer is the outcome's: with what it counts the next projection is as said, or the refusal is the fault's
abbrev pub Became : {A : Type 0} → (A → Projection → Type 0) → Result A LocalProjectionApplicationError → Outcome → Type 0
Became Next (Ok n) (done q) = Next n q
Became Next (Ok n) (stopped f) = ⊥
Became Next (Err e) (done q) = ⊥
Became Next (Err e) (stopped f) = application_fault_of e ≡ f

-- the table holds these rows now, or they are more than it has places for
abbrev pub RowsBecame : (width capacity : ℕ) → List (List ℕ) → List ℕ → Result ℕ LocalProjectionApplicationError → Type 0
RowsBecame width capacity rows exit (Ok n) = (length rows ≤ capacity) × HoldsRows width n exit rows
RowsBecame width capacity rows exit (Err e) = (capacity < length rows) × (e ≡ ProjectionFull)
