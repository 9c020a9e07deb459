use Prim.Native.Nat.{ℕ, ◌+◌, ◌-◌, ◌*◌, ◌≤◌, ◌<◌}
use mathlib.Core.Path.{◌≡◌, refl, sym, ap, ◌∙◌}
use mathlib.Core.Bool.{◌||◌}
use mathlib.Core.List.{List, ◌++◌}
use native.Mathlib.Omega.{arith}
use borrow.Author.Rules.{rules}
use lib.ListN.{length, take, drop}
use Rattle.spec_patch.specs.Sizes.{patch_operations, text_bytes}
use Rattle.spec_checks.specs.Target.{MutationTarget, mutation_target}
use Rattle.spec_import.specs.Import.{lines, read_terms}
use Rattle.projection_patch.specs.declared.patch.ProjectionPatchOperation.{ProjectionPatchOperation}
use Rattle.projection_patch.specs.Meaning.{operation_of}
use Rattle.patch_part_writer.specs.Parts.{size_within}
use Rattle.check_targets.specs.Targets.{check_target_of, numbers_of, target_seen}
use Rattle.check_targets.specs.TargetsLaws.{with_target_front, with_target_length}
use Rattle.check_targets.specs.Marks.{Marked}
use Rattle.check_targets.specs.MarksLaws.{marked_none}
use Rattle.patch_terms.specs.LinesLaws.{TermAt, term_at}
use Rattle.patch_import.specs.Survey.{term_bytes, survey_from, survey_of}
use Rattle.patch_import.specs.SurveyLaws.{text_short, size_told, target_is, next_behind, survey_turn, survey_full, survey_refused, survey_end}
use Rattle.patch_import.proofs.survey.survey_with.Given as goal

abbrev pub invariant-loop-at : goal.invariant-loop-at
invariant-loop-at l =
    (l.count ≤ patch_operations) × ((l.bytes ≤ term_bytes text_bytes * l.count) × ((length l.targets ≡ length l.initial.targets) × (Marked l.marks (take (3 * l.count) l.targets)
    × (survey_from l.collection l.count l.bytes l.repeated (take (3 * l.count) l.targets) (read_terms l.count (lines (drop l.at l.list))) ≡ survey_of l.collection (read_terms 0 (lines l.list))))))

abbrev pub decreases-loop-at : goal.decreases-loop-at
decreases-loop-at l = length l.list - l.at
