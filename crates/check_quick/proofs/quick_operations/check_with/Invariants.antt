use Prim.Native.Nat.{ℕ, ◌-◌, ◌*◌, ◌≤◌}
use mathlib.Core.Path.{◌≡◌, refl, sym, ap, ◌∙◌}
use mathlib.Core.Bool.{Bool, false, ◌||◌}
use mathlib.Core.List.{List, []}
use native.Mathlib.Omega.{arith}
use lib.ListN.{length, take}
use Rattle.spec_lists.proofs.BytesLaws.{bytes_of}
use Rattle.spec_patch.specs.Edition.{Edition}
use Rattle.spec_checks.specs.Target.{MutationTarget}
use Rattle.projection_patch.specs.Meaning.{edition_of}
use Rattle.patch_sets.proofs.ReadAt.{OperationReadAt, operation_at, no_operation_at}
use Rattle.check_targets.specs.Targets.{check_target_of, target_seen}
use Rattle.check_targets.specs.TargetsLaws.{with_target_front, with_target_length}
use Rattle.check_targets.specs.Marks.{Marked}
use Rattle.check_targets.specs.MarksLaws.{marked_none}
use Rattle.check_quick.specs.Anchors.{absent_among}
use Rattle.check_quick.proofs.QuickRuns.{quick_left_answer, none_left, refusal, operations_turn}
use mir.Val.{Fits}
use mir.Syntax.{w64}
use borrow.Author.Rules.{rules}
use Rattle.check_quick.proofs.quick_operations.check_with.Given as goal

abbrev pub invariant-loop-i : goal.invariant-loop-i
invariant-loop-i l =
    (l.at ≤ length l.set) × ((length l.targets ≡ length l.initial.targets) × (Marked l.marks (take (3 * l.i) l.targets)
    × ((known : MutationTarget → Bool) → quick_left_answer (edition_of l.edition) known l.set l.at (l.count - l.i) l.found (take (3 * l.i) l.targets) ≡ quick_left_answer (edition_of l.edition) known l.set l.from l.count false [])))
