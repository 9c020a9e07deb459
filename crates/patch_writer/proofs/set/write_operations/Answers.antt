-- `set::write_operations` meets its contract. The invariant: what is still to write, written from here, gives what the whole gives from the start.
use Rattle.std.proofs.Common.{◌≡◌, ap, ◌∙◌, get_or, arith, drop_of_length-le}
use Rattle.patch_part_writer.specs.Extent.{operation_size}
use Rattle.patch_part_writer.proofs.PartsLaws.{size_kept}
use Rattle.patch_writer.specs.Survey.{operation_bytes}
use Rattle.patch_writer.proofs.Elements.{no_text_place}
use Rattle.patch_writer.proofs.Passes.{place_within, operation_next, no_operations}
use Rattle.patch_writer.proofs.Progress.{progress_fits, progress_next, progress_end, next_sized}
use Rattle.patch_writer.proofs.set.write_operations.Goals as goal
use Rattle.patch_writer.proofs.set.write_operations.Goals.{After-operation_size-next, At-loop-place}

size : (c : After-operation_size-next) → c.operation_size-next.result ≡ operation_size (get_or c.args.places.now c.loop-place.place-index no_text_place).operation
size c =
    c.operation_size-next.ensures ∙ size_kept (get_or c.args.places.now c.loop-place.place-index no_text_place).operation (place_within c.args.texts.now c.args.places.now c.requires.hold c.loop-place.place-index c.loop-place-test.true).short

pub store_operation-requires : goal.store_operation-requires
store_operation-requires c =
    (progress_fits c.loop-place.invariant (operation_next c.args.texts.now c.args.places.now c.requires.hold c.loop-place.place-index c.loop-place-test.true), place_within c.args.texts.now c.args.places.now c.requires.hold c.loop-place.place-index c.loop-place-test.true)

pub overflow_add-next : goal.overflow_add-next
overflow_add-next c =
    omega (arith, size c, progress_fits c.loop-place.invariant (operation_next c.args.texts.now c.args.places.now c.requires.hold c.loop-place.place-index c.loop-place-test.true), c.loop-place.invariant.long)

pub loop-place-preserved : goal.loop-place-preserved
loop-place-preserved c =
    progress_next c.loop-place.invariant (next_sized (operation_next c.args.texts.now c.args.places.now c.requires.hold c.loop-place.place-index c.loop-place-test.true) c.operation_size-next.result (size (goal.at.loop-place-preserved c).After-operation_size-next)) c.store_operation.new.out c.store_operation.ensures

pub returns : goal.returns
returns c =
    let none = ap (operation_bytes c.args.texts.now) (drop_of_length-le c.args.places.now (omega (arith, c.loop-place-test.false))) ∙ no_operations c.args.texts.now in
    let end = progress_end c.loop-place.invariant none in
    record { value = end.1; out_after = end.0 }
