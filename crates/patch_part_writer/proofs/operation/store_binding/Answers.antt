-- `operation::store_binding` meets its contract: the slot behind the tag and the node, and the value behind them.
use Prim.Native.Nat.{ℕ, suc}
use mathlib.Core.List.{List, ◌∷◌, append_assoc}
use mathlib.Core.Path.{ap, ◌∙◌}
use native.Mathlib.Omega.{arith}
use borrow.Author.Rules.{rules}
use Rattle.bytes_wire.specs.Write.{overwrite}
use Rattle.spec_patch.specs.Encode.{u32, u64, encode_value}
use Rattle.spec_lists.proofs.BytesLaws.{length_little_endian}
use Rattle.projection_patch.specs.Widths.{tagged_bytes}
use Rattle.projection_patch.specs.Meaning.{value_of}
use Rattle.patch_part_writer.specs.Extent.{value_size}
use Rattle.patch_part_writer.specs.ExtentLaws.{length_value}
use Rattle.patch_part_writer.proofs.Stored.{stored_first, next, next_number}
use Rattle.patch_part_writer.proofs.operation.store_binding.Goals as goal

pub returns : goal.returns
returns c =
    let value = encode_value (value_of c.args.texts.now c.args.value) in
    let tagged = stored_first c.args.out.now c.args.at tagged_bytes (1 ∷ u64 c.args.target.node.0) (ap suc (length_little_endian 8 c.args.target.node.0)) (c.store_tagged.ensures ∙ ap (λ (x : ℕ). overwrite c.args.out.now c.args.at (1 ∷ u64 x)) c.raw.ensures) in
    let slot = next_number tagged 4 c.args.target.slot.0 (omega arith) c.write_u32_at.ensures.out_after in
    (next slot (value_size c.args.value) value (length_value c.args.texts.now c.args.value c.requires.1.inside) (omega arith) c.store_value.ensures).is
    ∙ ap (λ (b : List ℕ). overwrite c.args.out.now c.args.at (1 ∷ b)) (append_assoc (u64 c.args.target.node.0) (u32 c.args.target.slot.0) value)
