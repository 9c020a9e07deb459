-- `writing::write_lines` meets its contract: what is still to write, written from here, gives what the whole gives from the start.
-- ---- where its operation has been stored
use Prim.Native.Nat.{ℕ, ◌+◌, ◌-◌, ◌≤◌, ◌<◌}
use mathlib.Core.Path.{◌≡◌, refl, sym, ap, subst, ◌∙◌}
use mathlib.Core.List.{List}
use native.Mathlib.Omega.{arith}
use borrow.Author.Rules.{rules}
use lib.ListN.{length}
use Rattle.spec_patch.specs.Patch.{Operation}
use Rattle.spec_import.specs.Import.{Term, insert_of}
use Rattle.spec_patch.specs.Encode.{encode_operation}
use Rattle.bytes_wire.specs.Write.{overwrite}
use Rattle.projection_patch.specs.Meaning.{operation_of}
use Rattle.projection_patch.specs.declared.patch.ProjectionPatchOperation.{ProjectionPatchOperation}
use Rattle.patch_part_writer.specs.Extent.{operation_size, operation_text, WithinTexts}
use Rattle.patch_part_writer.specs.Parts.{size_within}
use Rattle.patch_writer.proofs.Progress.{Progress, Next, progress_start, progress_end, progress_fits, progress_next, next_sized}
use Rattle.patch_terms.specs.LinesLaws.{term_of, TermAt, term_at}
use Rattle.patch_import.specs.Survey.{insertion_of, term_bytes, insert_bytes, held_of}
use Rattle.patch_import.specs.SurveyLaws.{inserts_term, text_short, size_told, next_behind}
use Rattle.patch_import.specs.WritingLaws.{TermsLeft, Later, left_start, left_holds, left_end, later_terms, later_bytes, no_bytes}
use Rattle.patch_import.proofs.writing.write_lines.Goals as goal
use Rattle.patch_import.proofs.writing.write_lines.Goals.{After-operation_size-next, After-reread_line-line}

abbrev list : After-reread_line-line → List ℕ
list r = r.args.list.now

abbrev collection : After-reread_line-line → ℕ
collection r = r.args.collection

abbrev key : After-reread_line-line → ℕ
key k = k.reread_line-line.result.key

abbrev from : After-reread_line-line → ℕ
from k = k.reread_line-line.result.start

abbrev len : After-reread_line-line → ℕ
len k = k.reread_line-line.result.len

abbrev behind : After-reread_line-line → ℕ
behind k = k.reread_line-line.result.next

within : (r : After-reread_line-line) → r.loop-at.at < length (list r)
within r = omega (arith, r.loop-at-test.true)

one : (k : After-reread_line-line) → TermAt (list (goal.at.After-reread_line-line k).After-reread_line-line) k.loop-at.at (key k) (from k) (len k) (behind k)
one k =
    term_at (list (goal.at.After-reread_line-line k).After-reread_line-line) k.loop-at.at (key k) (from k) (len k) (behind k) (omega (arith, within (goal.at.After-reread_line-line k).After-reread_line-line)) (sym k.reread_line-line.ensures)

-- what is left behind it
abbrev left : (k : After-reread_line-line) → TermsLeft (list (goal.at.After-reread_line-line k).After-reread_line-line) k.loop-at.at k.loop-at.invariant.0
left k = k.loop-at.invariant.1

rest : (k : After-reread_line-line) → Later (left k) (within (goal.at.After-reread_line-line k).After-reread_line-line) (key k) (from k) (len k) (behind k) (one k)
rest k = later_terms (left k) (within (goal.at.After-reread_line-line k).After-reread_line-line) (key k) (from k) (len k) (behind k) (one k)

part : (k : After-reread_line-line) → Next (insert_bytes (collection (goal.at.After-reread_line-line k).After-reread_line-line) k.loop-at.invariant.0) (encode_operation (insert_of (collection (goal.at.After-reread_line-line k).After-reread_line-line) (term_of (list (goal.at.After-reread_line-line k).After-reread_line-line) (key k) (from k) (len k)))) (insert_bytes (collection (goal.at.After-reread_line-line k).After-reread_line-line) (rest k).after) (term_bytes (len k))
unfolding rest
part k = later_bytes (left k) (within (goal.at.After-reread_line-line k).After-reread_line-line) (key k) (from k) (len k) (behind k) (one k) (collection (goal.at.After-reread_line-line k).After-reread_line-line)

fits : (k : After-reread_line-line) → k.loop-at.next + (term_bytes (len k)) ≤ length k.loop-at.out
fits k = progress_fits k.loop-at.invariant.2 (part k)

size : (c : After-operation_size-next) → c.operation_size-next.result ≡ term_bytes (len (goal.at.After-operation_size-next c).After-reread_line-line)
size c =
    size_told (collection (goal.at.After-operation_size-next c).After-reread_line-line) (list (goal.at.After-operation_size-next c).After-reread_line-line) c.loop-at.at (key (goal.at.After-operation_size-next c).After-reread_line-line) (from (goal.at.After-operation_size-next c).After-reread_line-line) (len (goal.at.After-operation_size-next c).After-reread_line-line) (behind (goal.at.After-operation_size-next c).After-reread_line-line) (one (goal.at.After-operation_size-next c).After-reread_line-line) _ (c.operation_size-next.ensures ∙ ap size_within c.insertion-operation.ensures)

pub reread_line-line-requires : goal.reread_line-line-requires
reread_line-line-requires c = (omega (arith, c.loop-at-test.true), left_holds c.loop-at.invariant.1 (omega (arith, c.loop-at-test.true)))

pub store_operation-requires : goal.store_operation-requires
store_operation-requires c =
    let own : c.loop-at.next + operation_size (insertion_of (collection (goal.at.store_operation-requires c).After-reread_line-line) (key (goal.at.store_operation-requires c).After-reread_line-line) (from (goal.at.store_operation-requires c).After-reread_line-line) (len (goal.at.store_operation-requires c).After-reread_line-line)) ≤ length c.loop-at.out = omega (arith, fits (goal.at.store_operation-requires c).After-reread_line-line) in
    subst (λ (o : ProjectionPatchOperation). (c.loop-at.next + operation_size o ≤ length c.loop-at.out) × WithinTexts (list (goal.at.store_operation-requires c).After-reread_line-line) (operation_text o)) (sym c.insertion-operation.ensures)
    (own, record { inside = (one (goal.at.store_operation-requires c).After-reread_line-line).inside; short = text_short (collection (goal.at.store_operation-requires c).After-reread_line-line) (list (goal.at.store_operation-requires c).After-reread_line-line) c.loop-at.at (key (goal.at.store_operation-requires c).After-reread_line-line) (from (goal.at.store_operation-requires c).After-reread_line-line) (len (goal.at.store_operation-requires c).After-reread_line-line) (behind (goal.at.store_operation-requires c).After-reread_line-line) (one (goal.at.store_operation-requires c).After-reread_line-line) })

pub overflow_add-next : goal.overflow_add-next
overflow_add-next c = omega (arith, size c, fits (goal.at.overflow_add-next c).After-reread_line-line, c.loop-at.invariant.2.long)

pub loop-at-preserved : goal.loop-at-preserved
loop-at-preserved c =
    let written =
    c.store_operation.ensures
    ∙ ap (λ (o : ProjectionPatchOperation). overwrite c.loop-at.out c.loop-at.next (encode_operation (operation_of (list (goal.at.loop-at-preserved c).After-reread_line-line) o))) c.insertion-operation.ensures
    ∙ ap (λ (o : Operation). overwrite c.loop-at.out c.loop-at.next (encode_operation o)) (inserts_term (collection (goal.at.loop-at-preserved c).After-reread_line-line) (list (goal.at.loop-at-preserved c).After-reread_line-line) (key (goal.at.loop-at-preserved c).After-reread_line-line) (from (goal.at.loop-at-preserved c).After-reread_line-line) (len (goal.at.loop-at-preserved c).After-reread_line-line)) in
    ((rest (goal.at.loop-at-preserved c).After-reread_line-line).after, (rest (goal.at.loop-at-preserved c).After-reread_line-line).onward, progress_next c.loop-at.invariant.2 (next_sized (part (goal.at.loop-at-preserved c).After-reread_line-line) c.operation_size-next.result (size c)) _ written)

pub returns : goal.returns
returns c =
    (progress_end c.loop-at.invariant.2 (ap (insert_bytes c.args.collection) (left_end c.loop-at.invariant.1 (omega (arith, c.loop-at-test.false))) ∙ no_bytes c.args.collection)).0
