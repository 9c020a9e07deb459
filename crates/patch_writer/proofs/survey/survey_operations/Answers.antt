-- `survey::survey_operations` meets its contract. The invariant: what is left of the operations answers as the whole does.
use Rattle.std.proofs.Common.{◌≡◌, sym, ap, ◌∙◌, subst, get_or, arith, drop_of_length-le}
use Prim.Native.Nat.{ℕ, ◌+◌, ◌≤◌, ◌<◌}
use Rattle.std.specs.Prelude.{Result}
use Rattle.spec_patch.specs.Sizes.{text_bytes}
use Rattle.projection_patch.specs.Meaning.{edition_of}
use Rattle.projection_patch.specs.declared.text_rule.TextFault.{TextFault}
use Rattle.patch_part_writer.specs.declared.extent.TextPlace.{TextPlace}
use Rattle.patch_part_writer.specs.Extent.{operation_size, operation_text}
use Rattle.patch_part_writer.specs.ExtentLaws.{operation_small}
use Rattle.patch_part_writer.proofs.PartsLaws.{size_kept}
use Rattle.patch_writer.specs.Survey.{worse}
use Rattle.patch_writer.proofs.Elements.{no_text_place, whole_cons}
use Rattle.patch_writer.proofs.Surveyed.{OperationsSeen, operations_next, operations_over, operations_end}
use Rattle.patch_writer.proofs.survey.survey_operations.Goals as goal
use Rattle.patch_writer.proofs.survey.survey_operations.Goals.{After-operation_size-bytes}

short : (c : After-operation_size-bytes) → (operation_text (get_or c.args.places.now c.loop-place.place-index no_text_place).operation).len ≤ text_bytes
short c = subst (λ (t : TextPlace). t.len ≤ text_bytes) c.operation_text-text.ensures c.if-text-gt-TEXT_BYTES.false

size : (c : After-operation_size-bytes) → c.operation_size-bytes.result ≡ operation_size (get_or c.args.places.now c.loop-place.place-index no_text_place).operation
size c = c.operation_size-bytes.ensures ∙ size_kept (get_or c.args.places.now c.loop-place.place-index no_text_place).operation (short c)

pub returns-then-text-gt-TEXT_BYTES : goal.returns-then-text-gt-TEXT_BYTES
returns-then-text-gt-TEXT_BYTES c =
    let place = get_or c.args.places.now c.loop-place.place-index no_text_place in
    sym (operations_over c.loop-place.invariant place (whole_cons c.args.places.now c.loop-place.place-index no_text_place c.loop-place-test.true) (subst (λ (t : TextPlace). text_bytes < t.len) c.operation_text-text.ensures c.if-text-gt-TEXT_BYTES.true))

pub overflow_add-bytes : goal.overflow_add-bytes
overflow_add-bytes c =
    let place = get_or c.args.places.now c.loop-place.place-index no_text_place in
    omega (arith, c.loop-place.invariant.small, size c, operation_small place.operation (short c))

pub loop-place-preserved : goal.loop-place-preserved
loop-place-preserved c =
    let at = (goal.at.loop-place-preserved c).After-operation_size-bytes in
    let place = get_or c.args.places.now c.loop-place.place-index no_text_place in
    let next = operations_next c.loop-place.invariant place (whole_cons c.args.places.now c.loop-place.place-index no_text_place c.loop-place-test.true) (short at) in
    let verdict = c.worse_of-judgement.ensures ∙ ap (worse c.loop-place.judgement) c.judge_operation.ensures in
    subst (λ (n : ℕ). OperationsSeen (edition_of c.args.edition) c.args.texts.now c.args.places.now (c.loop-place.bytes + n) c.worse_of-judgement.result (c.loop-place.place-index + 1)) (sym (size at))
    (subst (λ (t : Result (Unit {0}) TextFault). OperationsSeen (edition_of c.args.edition) c.args.texts.now c.args.places.now (c.loop-place.bytes + operation_size place.operation) t (c.loop-place.place-index + 1)) (sym verdict) next)

pub returns : goal.returns
returns c = sym (operations_end c.loop-place.invariant (drop_of_length-le c.args.places.now (omega (arith, c.loop-place-test.false))))
