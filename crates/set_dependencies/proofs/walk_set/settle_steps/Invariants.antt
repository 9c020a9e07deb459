use Prim.Native.Nat.{ℕ, ◌-◌, ◌≤◌}
use mathlib.Core.Path.{◌≡◌, refl, subst}
use mathlib.Core.Bool.{false}
use mathlib.Core.List.{List, []}
use native.Mathlib.Omega.{arith}
use borrow.Author.Rules.{rules}
use lib.ListN.{length}
use Rattle.spec_patch.specs.Sizes.{set_bytes}
use Rattle.spec_patch.specs.Edition.{Edition}
use Rattle.spec_patch.specs.Patch.{Patch}
use Rattle.spec_dependencies.specs.Dependencies.{settle_patches}
use Rattle.projection_patch.specs.Meaning.{edition_of}
use Rattle.patch_walk.specs.Steps.{StepWithin, AtSteps}
use Rattle.patch_walk.proofs.StepsLaws.{visited, opened, done, never_refused}
use Rattle.set_dependencies.specs.SettledRows.{SettledIn, no_places}
use Rattle.set_dependencies.proofs.Walking.{SettlingRun, settling_start, settling_end, settling_head, settling_on, settling_contradicts}
use Rattle.set_dependencies.proofs.walk_set.settle_steps.Given as goal

abbrev pub invariant-loop-step : goal.invariant-loop-step
invariant-loop-step l =
    (length l.table ≡ length l.initial.table) × (l.opened ≤ l.cursor.at) × (l.index ≤ l.cursor.at)
    × ((ps : List Patch) → length l.set ≤ set_bytes → AtSteps (edition_of l.edition) l.set l.initial.cursor [] ps → SettledIn no_places l.initial.table [] → SettlingRun (edition_of l.edition) l.set (settle_patches 0 ps []) l.cursor l.places l.opened l.patch l.index l.table)

abbrev pub decreases-loop-step : goal.decreases-loop-step
decreases-loop-step l = length l.set - l.cursor.at
