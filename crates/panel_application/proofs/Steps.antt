-- What came of a set's operations, by the answer of `apply_set`.
use Rattle.std.specs.Prelude.{Result, Ok, Err}
use Prim.Native.Nat.{ℕ}
use mathlib.Core.Path.{◌≡◌, subst}
use mathlib.Core.List.{List}
use Rattle.spec_projection.specs.Apply.{Outcome, done, stopped}
use Rattle.local_projection_state.specs.declared.LocalProjectionState.{LocalProjectionState}
use Rattle.local_projection_state.specs.declared.ProjectionCounts.{ProjectionCounts}
use Rattle.local_projection_state.specs.declared.LocalProjectionApplicationError.{LocalProjectionApplicationError}
use Rattle.projection_patch.specs.declared.read_values.ProjectionPatchReadFault.{ProjectionPatchReadFault}
use Rattle.panel_changes.specs.SetChanges.{StoredAfter, ChangeBecame}
use Rattle.panel_changes.specs.declared.SetRefusal.{SetRefusal}
use Rattle.panel_changes.specs.declared.SetRefusal.TheVariants as change
use Rattle.panel_application.specs.Application.{StepsBecame}
use Rattle.panel_application.specs.declared.ProjectionRefusal.TheVariants.{Operation}

-- the tables store what came of the operations
abbrev TablesBecame : (b a e l : List ℕ) → Result ProjectionCounts SetRefusal → Outcome → Type 0
TablesBecame b a e l = ChangeBecame (λ n q. StoredAfter n b a e l q)

module _ (b a e l : List ℕ) {r : Result ProjectionCounts SetRefusal} (x : Outcome) (h : TablesBecame b a e l r x) where
  pub steps_applied : (n : ProjectionCounts) → r ≡ Ok n → StepsBecame (record { counts = n; bindings = b; availability = a; entries = e; lengths = l }) (Ok tt) x
  steps_applied n is = go x (subst (λ z. TablesBecame b a e l z x) is h)
    where
      go : (x : Outcome) → TablesBecame b a e l (Ok n) x → StepsBecame (record { counts = n; bindings = b; availability = a; entries = e; lengths = l }) (Ok tt) x
      go (done q) h = record { tables = h.0; lengths = h.1 }
      go (stopped f) h = h

  pub steps_refused : (state : LocalProjectionState) (fault : LocalProjectionApplicationError) → r ≡ Err (change.Operation fault) → StepsBecame state (Err (Operation fault)) x
  steps_refused state fault is = go x (subst (λ z. TablesBecame b a e l z x) is h)
    where
      go : (x : Outcome) → TablesBecame b a e l (Err (change.Operation fault)) x → StepsBecame state (Err (Operation fault)) x
      go (done q) h = h
      go (stopped f) h = h

  pub set_reads : (fault : ProjectionPatchReadFault) → r ≡ Err (change.Unreadable fault) → ⊥
  set_reads fault is = subst (λ z. TablesBecame b a e l z x) is h

  pub set_fits : r ≡ Err change.BadTables → ⊥
  set_fits is = subst (λ z. TablesBecame b a e l z x) is h
