use Prim.Native.Nat.{ℕ, ◌+◌, ◌-◌, ◌≤◌, ◌<◌}
use mathlib.Core.Path.{◌≡◌, refl, sym, ap, subst, ◌∙◌}
use mathlib.Core.List.{List}
use native.Mathlib.Omega.{arith}
use borrow.Author.Rules.{rules}
use lib.ListN.{length}
use Rattle.spec_patch.specs.Patch.{Operation}
use Rattle.spec_import.specs.Import.{Term, insert_of}
use Rattle.spec_patch.specs.Encode.{encode_operation}
use Rattle.bytes_wire.specs.Write.{overwrite}
use Rattle.projection_patch.specs.Meaning.{operation_of}
use Rattle.projection_patch.specs.declared.patch.ProjectionPatchOperation.{ProjectionPatchOperation}
use Rattle.patch_part_writer.specs.Extent.{operation_size, operation_text, WithinTexts}
use Rattle.patch_part_writer.specs.Parts.{size_within}
use Rattle.patch_writer.proofs.Progress.{Progress, Next, progress_start, progress_end, progress_fits, progress_next, next_sized}
use Rattle.patch_terms.specs.LinesLaws.{term_of, TermAt, term_at}
use Rattle.patch_import.specs.Survey.{insertion_of, term_bytes, insert_bytes, held_of}
use Rattle.patch_import.specs.SurveyLaws.{inserts_term, text_short, size_told, next_behind}
use Rattle.patch_import.specs.WritingLaws.{TermsLeft, Later, left_start, left_holds, left_end, later_terms, later_bytes, no_bytes}
use Rattle.patch_import.proofs.writing.write_lines.Given as goal

abbrev pub invariant-loop-at : goal.invariant-loop-at
invariant-loop-at l =
    (rest : List Term) × TermsLeft l.list l.at rest × Progress l.initial.out l.from (insert_bytes l.collection (held_of l.list)) l.out l.next (insert_bytes l.collection rest)

abbrev pub decreases-loop-at : goal.decreases-loop-at
decreases-loop-at l = length l.list - l.at
