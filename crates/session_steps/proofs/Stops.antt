-- A set that was refused stopped.
use Rattle.std.specs.Prelude.{◌≡◌, refl, Result, Ok, Err}
use Rattle.std.proofs.Common.{sym, subst}
use Rattle.local_projection_state.specs.declared.ProjectionCounts.{ProjectionCounts}
use Rattle.panel_changes.specs.declared.SetRefusal.{SetRefusal}
use Rattle.session_steps.specs.Answers.{Stopped}

pub refused_stopped : (r : Result ProjectionCounts SetRefusal) {f : SetRefusal} → r ≡ Err f → Stopped r
refused_stopped r is = subst Stopped (sym is) tt

-- a change that is not applied stopped
pub other_stopped : (r : Result ProjectionCounts SetRefusal) → ((n : ProjectionCounts) → r ≡ Ok n → ⊥) → Stopped r
other_stopped (Ok n) other = other n refl
other_stopped (Err f) other = tt
