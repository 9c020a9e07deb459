-- `set::write_patches` meets its contract. The invariant: what is still to write, written from here, gives what the whole gives from the start.
use Prim.Native.Nat.{ℕ, ◌+◌}
use Rattle.std.proofs.Common.{ap, ap₂, ◌∙◌, length, arith, drop_of_length-le}
use mathlib.Core.List.{List, flat_map}
use Rattle.spec_patch.specs.Encode.{encode_patch}
use Rattle.bytes_wire.specs.Write.{overwrite}
use Rattle.projection_patch.specs.declared.patch.ProjectionPatch.{ProjectionPatch}
use Rattle.projection_patch.specs.declared.patch.OperationPlace.{OperationPlace}
use Rattle.patch_writer.specs.Set.{list_from}
use Rattle.patch_writer.specs.Survey.{operation_bytes}
use Rattle.patch_writer.proofs.Passes.{head_fits, own_within, own_ready, left_hold, left_written, none_left}
use Rattle.patch_writer.proofs.Progress.{progress_end}
use Rattle.patch_writer.proofs.set.write_patches.Goals as goal

pub store_head-requires : goal.store_head-requires
store_head-requires c = head_fits c.args.texts.now c.args.heads.now c.loop-head.head-index c.loop-head.rest.now c.loop-head.invariant.heads c.loop-head.invariant.written c.loop-head-test.true

pub split_at-requires : goal.split_at-requires
split_at-requires c = own_within c.args.texts.now c.args.heads.now c.loop-head.head-index c.loop-head.rest.now c.loop-head.invariant.heads c.loop-head.invariant.written c.loop-head-test.true

pub write_operations-next-requires : goal.write_operations-next-requires
write_operations-next-requires c =
    let ready = own_ready c.args.texts.now c.args.heads.now c.loop-head.head-index c.loop-head.rest.now c.loop-head.invariant.heads c.loop-head.invariant.written c.loop-head-test.true c.store_head.new.out c.store_head.ensures in
    rw (c.split_at.ensures.front, c.head_size.ensures) ready

pub loop-head-preserved : goal.loop-head-preserved
loop-head-preserved c =
    let front = c.split_at.ensures.front in
    let size = c.head_size.ensures in
    let hold = left_hold c.args.texts.now c.args.heads.now c.loop-head.head-index c.loop-head.rest.now c.loop-head.invariant.heads c.loop-head.invariant.written c.loop-head-test.true c.store_head.new.out c.store_head.ensures in
    let is = c.write_operations-next.ensures.out_after ∙ ap₂ (λ (k : ℕ) (ps : List OperationPlace). overwrite c.store_head.new.out (c.loop-head.next + k) (operation_bytes c.args.texts.now ps)) size front in
    let next = c.write_operations-next.ensures.value ∙ ap₂ (λ (k : ℕ) (ps : List OperationPlace). c.loop-head.next + k + length (operation_bytes c.args.texts.now ps)) size front in
    let written = left_written c.args.texts.now c.args.heads.now c.loop-head.head-index c.loop-head.rest.now c.loop-head.invariant.heads c.loop-head.invariant.written c.loop-head-test.true c.store_head.new.out c.store_head.ensures c.write_operations-next.new.out is in
    record { heads = rw c.split_at.ensures.back hold; written = rw (next, c.split_at.ensures.back) written }

pub returns : goal.returns
returns c =
    let none = ap (λ (l : List ProjectionPatch). flat_map encode_patch (list_from c.args.texts.now l c.loop-head.rest.now)) (drop_of_length-le c.args.heads.now (omega (arith, c.loop-head-test.false))) ∙ none_left c.args.texts.now c.loop-head.rest.now in
    let end = progress_end c.loop-head.invariant.written none in
    record { value = end.1; out_after = end.0 }
