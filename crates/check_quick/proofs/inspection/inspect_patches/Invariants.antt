use Prim.Native.Nat.{ℕ, ◌+◌, ◌-◌, ◌*◌, ◌≤◌, ◌<◌}
use mathlib.Core.Path.{◌≡◌, refl, ap, ◌∙◌}
use mathlib.Core.Bool.{Bool, false}
use mathlib.Core.List.{List, []}
use mathlib.Core.Option.{none}
use native.Mathlib.Omega.{arith}
use lib.ListN.{length, take, drop, length-set}
use Rattle.spec_lists.specs.Bytes.{Bytes}
use Rattle.spec_lists.proofs.BytesLaws.{bytes_of}
use Rattle.spec_patch.specs.Sizes.{patch_operations}
use Rattle.spec_patch.specs.Edition.{Edition}
use Rattle.spec_patch.specs.Reader.{many}
use Rattle.spec_patch.specs.Read.{read_patch, ended}
use Rattle.spec_checks.specs.Target.{MutationTarget}
use Rattle.projection_patch.specs.Meaning.{edition_of, envelope_of}
use Rattle.projection_patch.specs.ReadAnswers.{anywhere}
use Rattle.projection_patch.proofs.Answers.{Got}
use Rattle.patch_sets.proofs.Runs.{few}
use Rattle.check_quick.specs.Anchors.{anchored}
use Rattle.check_quick.specs.Quick.{AtMost, least_patch}
use Rattle.check_quick.specs.QuickAnswers.{previous_of, quick_checked_to, inspection_answer}
use Rattle.check_quick.specs.declared.quick_patches.PatchChecked.{PatchChecked}
use Rattle.check_quick.proofs.QuickSets.{PassedPatches, passed_patches, patch_got, no_patch, least_taken, patches_left, none_passed, patch_refused, count_is, few_absent, at_most_still, patches_turn, patches_end}
use mir.Val.{Fits}
use mir.Syntax.{w64}
use borrow.Author.Rules.{rules}
use Rattle.check_quick.proofs.inspection.inspect_patches.Given as goal

abbrev pub invariant-loop-done : goal.invariant-loop-done
invariant-loop-done l =
    (l.at ≤ length l.set) × ((l.operations + (l.count - l.done) * patch_operations ≤ l.count * patch_operations) × ((l.absent ≤ l.operations)
    × (((length l.ids ≡ length l.initial.ids) × (l.done * least_patch ≤ l.at)) × (AtMost l.highest (take l.done l.ids)
    × (patches_left (edition_of l.edition) (anchored l.nodes l.bindings l.collections) l.set l.at (l.count - l.done) (passed_patches l.done l.operations l.absent l.found) (take l.done l.ids) (previous_of l.previous) ≡ inspection_answer l.nodes l.bindings l.collections (ended (many l.count (read_patch (edition_of l.edition)) (drop l.from l.set))))))))
