use Prim.Native.Nat.{ℕ, ◌+◌, ◌≤◌, ◌<◌}
use mathlib.Core.Path.{◌≡◌, refl, sym, ap, ◌∙◌, subst}
use mathlib.Core.Bool.{false}
use mathlib.Core.List.{List, []}
use native.Mathlib.Omega.{arith}
use lib.ListN.{length, length-set}
use Rattle.spec_lists.proofs.BytesLaws.{bytes_of}
use Rattle.spec_patch.specs.Sizes.{set_patches}
use Rattle.spec_patch.specs.Patch.{Patch}
use Rattle.spec_patch.specs.Edition.{Edition}
use Rattle.projection_patch.specs.Meaning.{edition_of}
use Rattle.patch_walk.specs.Steps.{AtSteps}
use Rattle.patch_walk.specs.CountLaws.{StepCounts, step_counts}
use Rattle.patch_walk.proofs.Matches.{head_matches}
use Rattle.check_quick.specs.QuickAnswers.{previous_of}
use Rattle.check_set.specs.Listed.{table_length}
use Rattle.check_set.proofs.PatchRuns.{PatchRun, patch_run_start, patch_run_end, patch_run_found, patch_run_turn}
use borrow.Author.Rules.{rules}
use Rattle.check_set.proofs.list_set.list_patches.Given as goal

abbrev pub invariant-loop-cursor : goal.invariant-loop-cursor
invariant-loop-cursor l =
    (l.done + l.cursor.patches_left ≤ set_patches) × ((length l.records ≡ length l.initial.records) × ((length l.ids ≡ set_patches)
    × ((ps : List Patch) → AtSteps (edition_of l.edition) l.set l.initial.cursor [] ps → PatchRun (edition_of l.edition) l.set ps l.cursor l.done l.kept l.ids (previous_of l.previous) l.records)))

abbrev pub decreases-loop-cursor : goal.decreases-loop-cursor
decreases-loop-cursor l = l.cursor.patches_left
