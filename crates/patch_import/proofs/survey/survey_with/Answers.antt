-- `survey::survey_with` meets its contract: what is left of the lines, after what was told of those before, tells what the whole does.
-- ---- where its operation has been measured
use Prim.Native.Nat.{ℕ, ◌+◌, ◌-◌, ◌*◌, ◌≤◌, ◌<◌}
use mathlib.Core.Path.{◌≡◌, refl, sym, ap, ◌∙◌}
use mathlib.Core.Bool.{◌||◌}
use mathlib.Core.List.{List, ◌++◌}
use native.Mathlib.Omega.{arith}
use borrow.Author.Rules.{rules}
use lib.ListN.{length, take, drop}
use Rattle.spec_patch.specs.Sizes.{patch_operations, text_bytes}
use Rattle.spec_checks.specs.Target.{MutationTarget, mutation_target}
use Rattle.spec_import.specs.Import.{lines, read_terms}
use Rattle.projection_patch.specs.declared.patch.ProjectionPatchOperation.{ProjectionPatchOperation}
use Rattle.projection_patch.specs.Meaning.{operation_of}
use Rattle.patch_part_writer.specs.Parts.{size_within}
use Rattle.check_targets.specs.Targets.{check_target_of, numbers_of, target_seen}
use Rattle.check_targets.specs.TargetsLaws.{with_target_front, with_target_length}
use Rattle.check_targets.specs.Marks.{Marked}
use Rattle.check_targets.specs.MarksLaws.{marked_none}
use Rattle.patch_terms.specs.LinesLaws.{TermAt, term_at}
use Rattle.std.specs.Prelude.{Err}
use Rattle.patch_import.specs.Answers.{of_term}
use Rattle.patch_import.specs.Survey.{term_bytes, survey_from, survey_of}
use Rattle.patch_import.specs.SurveyLaws.{text_short, size_told, target_is, next_behind, survey_turn, survey_full, survey_refused, survey_end}
use Rattle.patch_import.proofs.survey.survey_with.Goals as goal
use Rattle.patch_import.proofs.survey.survey_with.Goals.{After-operation_size-bytes, After-read_line, Else-count-eq-OPERATIONS, In_ok-line}

abbrev list : After-read_line → List ℕ
list r = r.args.list.now

abbrev collection : After-read_line → ℕ
collection r = r.args.collection

abbrev key : In_ok-line → ℕ
key k = k.in_ok-line.line.key

abbrev from : In_ok-line → ℕ
from k = k.in_ok-line.line.start

abbrev len : In_ok-line → ℕ
len k = k.in_ok-line.line.len

abbrev next : In_ok-line → ℕ
next k = k.in_ok-line.line.next

within : (r : After-read_line) → r.loop-at.at < length (list r)
within r = omega (arith, r.loop-at-test.true)

one : (k : In_ok-line) → TermAt (list (goal.at.In_ok-line k).After-read_line) k.loop-at.at (key k) (from k) (len k) (next k)
one k =
    term_at (list (goal.at.In_ok-line k).After-read_line) k.loop-at.at (key k) (from k) (len k) (next k) (omega (arith, within (goal.at.In_ok-line k).After-read_line)) (sym k.read_line.ensures ∙ k.in_ok-line.was)

-- there is room for one target more
room : (e : Else-count-eq-OPERATIONS) → (e.loop-at.count < patch_operations) × (3 * e.loop-at.count + 3 ≤ length e.loop-at.targets)
room e = (omega (arith, e.if-count-eq-OPERATIONS.false, e.loop-at.invariant.0), omega (arith, e.if-count-eq-OPERATIONS.false, e.loop-at.invariant.0, e.loop-at.invariant.1.1.0, e.requires.0))

size : (c : After-operation_size-bytes) → c.operation_size-bytes.result ≡ term_bytes (len (goal.at.After-operation_size-bytes c).In_ok-line)
size c =
    size_told (collection (goal.at.After-operation_size-bytes c).After-read_line) (list (goal.at.After-operation_size-bytes c).After-read_line) c.loop-at.at (key (goal.at.After-operation_size-bytes c).In_ok-line) (from (goal.at.After-operation_size-bytes c).In_ok-line) (len (goal.at.After-operation_size-bytes c).In_ok-line) (next (goal.at.After-operation_size-bytes c).In_ok-line) (one (goal.at.After-operation_size-bytes c).In_ok-line) _ (c.operation_size-bytes.ensures ∙ ap size_within c.insertion-operation.ensures)

short : (k : In_ok-line) → len k ≤ text_bytes
short k = text_short (collection (goal.at.In_ok-line k).After-read_line) (list (goal.at.In_ok-line k).After-read_line) k.loop-at.at (key k) (from k) (len k) (next k) (one k)

pub loop-at-init : goal.loop-at-init
loop-at-init c = (omega arith, (omega arith, (refl, (marked_none c.args.marks.now (search rules), refl))))

pub returns-then-count-eq-OPERATIONS : goal.returns-then-count-eq-OPERATIONS
returns-then-count-eq-OPERATIONS c =
    survey_full (collection (goal.at.returns-then-count-eq-OPERATIONS c).After-read_line) (list (goal.at.returns-then-count-eq-OPERATIONS c).After-read_line) c.loop-at.at (key (goal.at.returns-then-count-eq-OPERATIONS c).In_ok-line) (from (goal.at.returns-then-count-eq-OPERATIONS c).In_ok-line) (len (goal.at.returns-then-count-eq-OPERATIONS c).In_ok-line) (next (goal.at.returns-then-count-eq-OPERATIONS c).In_ok-line) (one (goal.at.returns-then-count-eq-OPERATIONS c).In_ok-line) c.loop-at.count c.loop-at.bytes c.loop-at.repeated (take (3 * c.loop-at.count) c.loop-at.targets) (within (goal.at.returns-then-count-eq-OPERATIONS c).After-read_line) (omega (arith, c.if-count-eq-OPERATIONS.true))
    ∙ c.loop-at.invariant.1.1.1.1

pub returns-in_err-line : goal.returns-in_err-line
returns-in_err-line c =
    let told : c.from_residual.result ≡ Err (of_term c.in_err-line.field-0.0) = search rules in
    told
    ∙ survey_refused c.args.collection c.args.list.now c.loop-at.at c.loop-at.count c.loop-at.bytes c.loop-at.repeated (take (3 * c.loop-at.count) c.loop-at.targets) (omega (arith, c.loop-at-test.true)) c.in_err-line.field-0.0 (sym c.read_line.ensures ∙ c.in_err-line.was)
    ∙ c.loop-at.invariant.1.1.1.1

pub overflow_add-bytes : goal.overflow_add-bytes
overflow_add-bytes c = omega (arith, size c, short (goal.at.overflow_add-bytes c).In_ok-line, c.loop-at.invariant.0, c.loop-at.invariant.1.0)

pub loop-at-preserved : goal.loop-at-preserved
loop-at-preserved c =
    let before = take (3 * c.loop-at.count) c.loop-at.targets in
    let three : 3 * (c.loop-at.count + 1) ≡ 3 * c.loop-at.count + 3 = omega arith in
    let same = ap length c.repeats-repeated.ensures.kept ∙ with_target_length (3 * c.loop-at.count) (check_target_of c.mutation_target-target.result) c.loop-at.targets (room (goal.at.loop-at-preserved c).Else-count-eq-OPERATIONS).1 in
    let front = ap (λ (n : ℕ). take n c.repeats-repeated.new.targets) three ∙ ap (take (3 * c.loop-at.count + 3)) c.repeats-repeated.ensures.kept ∙ with_target_front (3 * c.loop-at.count) (check_target_of c.mutation_target-target.result) c.loop-at.targets (room (goal.at.loop-at-preserved c).Else-count-eq-OPERATIONS).1 in
    let is = c.mutation_target-target.ensures (list (goal.at.loop-at-preserved c).After-read_line) ∙ ap (λ (o : ProjectionPatchOperation). mutation_target (operation_of (list (goal.at.loop-at-preserved c).After-read_line) o)) c.insertion-operation.ensures ∙ target_is (collection (goal.at.loop-at-preserved c).After-read_line) (list (goal.at.loop-at-preserved c).After-read_line) c.loop-at.at (key (goal.at.loop-at-preserved c).In_ok-line) (from (goal.at.loop-at-preserved c).In_ok-line) (len (goal.at.loop-at-preserved c).In_ok-line) (next (goal.at.loop-at-preserved c).In_ok-line) (one (goal.at.loop-at-preserved c).In_ok-line) in
    let told = c.repeats-repeated.ensures.found ∙ ap (λ (t : MutationTarget). c.loop-at.repeated || target_seen t before) is in
    let are = front ∙ ap (λ (t : MutationTarget). before ++ numbers_of t) is in (
      omega (arith, (room (goal.at.loop-at-preserved c).Else-count-eq-OPERATIONS).0),
      (omega (arith, size c, short (goal.at.loop-at-preserved c).In_ok-line, c.loop-at.invariant.1.0), (omega (arith, same, c.loop-at.invariant.1.1.0), (rw front c.repeats-repeated.ensures.marked, survey_turn (collection (goal.at.loop-at-preserved c).After-read_line) (list (goal.at.loop-at-preserved c).After-read_line) c.loop-at.at (key (goal.at.loop-at-preserved c).In_ok-line) (from (goal.at.loop-at-preserved c).In_ok-line) (len (goal.at.loop-at-preserved c).In_ok-line) (next (goal.at.loop-at-preserved c).In_ok-line) (one (goal.at.loop-at-preserved c).In_ok-line) c.loop-at.count c.loop-at.bytes c.loop-at.repeated before (within (goal.at.loop-at-preserved c).After-read_line) (room (goal.at.loop-at-preserved c).Else-count-eq-OPERATIONS).0 _ (size c) _ told _ are ∙ c.loop-at.invariant.1.1.1.1))),
    )

pub returns : goal.returns
returns c =
    survey_end c.args.collection c.args.list.now c.loop-at.at c.loop-at.count c.loop-at.bytes c.loop-at.repeated (take (3 * c.loop-at.count) c.loop-at.targets) (omega arith)
    ∙ c.loop-at.invariant.1.1.1.1
