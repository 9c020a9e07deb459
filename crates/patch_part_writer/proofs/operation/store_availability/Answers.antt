-- `operation::store_availability` meets its contract: the byte behind the tag and the node.
use Prim.Native.Nat.{ℕ, suc, ◌+◌}
use mathlib.Core.List.{[], ◌∷◌}
use mathlib.Core.Path.{refl, ap, ◌∙◌}
use native.Mathlib.Omega.{arith}
use borrow.Author.Rules.{rules}
use Rattle.bytes_wire.specs.Write.{overwrite}
use Rattle.spec_patch.specs.Encode.{u64}
use Rattle.spec_lists.proofs.BytesLaws.{length_little_endian}
use Rattle.projection_patch.specs.Widths.{tagged_bytes}
use Rattle.patch_part_writer.proofs.Stored.{stored_first, next, one_byte}
use Rattle.patch_part_writer.proofs.operation.store_availability.Goals as goal

pub returns : goal.returns
returns c =
    let tagged = stored_first c.args.out.now c.args.at tagged_bytes (2 ∷ u64 c.args.node.0) (ap suc (length_little_endian 8 c.args.node.0)) (c.store_tagged.ensures ∙ ap (λ (x : ℕ). overwrite c.args.out.now c.args.at (2 ∷ u64 x)) c.raw.ensures) in
    (next tagged 1 (c.args.byte ∷ []) refl (omega arith) (c.write_u8_at.ensures.out_after ∙ ap (overwrite c.store_tagged.new.out (c.args.at + tagged_bytes)) (one_byte c.args.byte c.ranges.byte.fits))).is
