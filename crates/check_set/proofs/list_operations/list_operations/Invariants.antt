use Prim.Native.Nat.{ℕ, ◌+◌, ◌*◌, ◌≤◌, ◌<◌}
use mathlib.Core.Path.{◌≡◌, refl, sym, ap, ◌∙◌, subst}
use mathlib.Core.Bool.{false}
use mathlib.Core.List.{List, []}
use native.Mathlib.Omega.{arith}
use lib.ListN.{length, take}
use Rattle.spec_lists.proofs.BytesLaws.{bytes_of}
use Rattle.spec_patch.specs.Patch.{Operation, Patch}
use Rattle.spec_patch.specs.Edition.{Edition}
use Rattle.projection_patch.specs.Meaning.{edition_of}
use Rattle.patch_walk.specs.Steps.{AtSteps}
use Rattle.patch_walk.specs.CountLaws.{StepCounts, step_counts}
use Rattle.patch_walk.proofs.Matches.{operation_matches}
use Rattle.check_targets.specs.Targets.{check_target_of}
use Rattle.check_targets.specs.TargetsLaws.{with_target_front, with_target_length}
use Rattle.check_targets.specs.Marks.{Marked}
use Rattle.check_targets.specs.MarksLaws.{marked_none}
use Rattle.check_set.proofs.OperationRuns.{OperationRun, operation_run_start, operation_run_turn, operation_run_end}
use borrow.Author.Rules.{rules}
use Rattle.check_set.proofs.list_operations.list_operations.Given as goal

abbrev pub invariant-loop-cursor : goal.invariant-loop-cursor
invariant-loop-cursor l =
    (l.used + 3 * l.cursor.operations_left ≤ length l.targets) × ((l.index ≤ l.used) × ((length l.targets ≡ length l.initial.targets) × ((length l.records ≡ length l.initial.records)
    × ((l.cursor.patches_left ≡ l.start.patches_left) × (Marked l.marks (take l.used l.targets)
    × ((os : List Operation) (ps : List Patch) → AtSteps (edition_of l.edition) l.set l.start os ps → OperationRun (edition_of l.edition) l.set l.start.patch_id os ps l.first l.initial.records l.cursor l.used l.index l.kept l.targets l.records))))))

abbrev pub decreases-loop-cursor : goal.decreases-loop-cursor
decreases-loop-cursor l = l.cursor.operations_left
