use Prim.Native.Nat.{ℕ, ◌-◌, ◌≤◌}
use mathlib.Core.Path.{◌≡◌, refl, sym, ap, ◌∙◌, subst}
use mathlib.Core.Bool.{false}
use mathlib.Core.List.{List, []}
use native.Mathlib.Omega.{arith}
use lib.ListN.{length}
use Rattle.spec_patch.specs.Edition.{Edition}
use Rattle.spec_patch.specs.Patch.{Patch}
use Rattle.spec_session.specs.Session.{Catalogue}
use Rattle.spec_explain.specs.Walk.{walk_patches, tested}
use Rattle.spec_explain.specs.Explain.{target_known}
use Rattle.projection_patch.specs.Meaning.{edition_of}
use Rattle.projection_patch.specs.ReadAnswers.{lent_from}
use Rattle.patch_walk.specs.Steps.{StepWithin, AtSteps}
use Rattle.patch_walk.proofs.StepsLaws.{visited, opened, done, never_refused}
use Rattle.session_gates.specs.Lent.{Lent}
use Rattle.session_explain.specs.Unknown.{unknown_to}
use Rattle.panel_steps.specs.Walking.{Walking, walk_start, walk_end, walk_head, walk_on_lem, walk_halts}
use Rattle.session_explain.specs.UnknownLaws.{step_on, step_halts}
use borrow.Author.Rules.{rules}
use Rattle.session_explain.proofs.targets.unknown_from.Given as goal

abbrev pub invariant-loop-next : goal.invariant-loop-next
invariant-loop-next l =
    (l.opened ≤ l.cursor.at) × ((l.index ≤ l.cursor.at)
    × ((c : Catalogue) (ps : List Patch) → Lent c l.nodes l.bindings l.collections → AtSteps (edition_of l.edition) l.set l.initial.cursor [] ps
    → Walking (tested (target_known c)) (edition_of l.edition) l.set (walk_patches (tested (target_known c)) 0 tt ps) l.cursor l.opened l.patch l.index tt))

abbrev pub decreases-loop-next : goal.decreases-loop-next
decreases-loop-next l = length l.set - l.cursor.at
