-- `fields::store_signed` meets its contract: the two's complement behind the tag.
use Prim.Native.Nat.{ℕ, ◌+◌}
use mathlib.Core.List.{List, ◌++◌}
use mathlib.Core.Path.{ap, ◌∙◌}
use native.Mathlib.Omega.{arith}
use borrow.Author.Rules.{rules}
use lib.IntN.{ℤ}
use mir.Syntax.{w64}
use mir.Val.{of_z}
use mir.Facts.{to_z-of_z}
use Rattle.patch_part_writer.proofs.Stored.{first_number, next_number, one_byte}
use Rattle.bytes_wire.specs.Write.{overwrite}
use Rattle.spec_patch.specs.Encode.{u64}
use Rattle.patch_part_writer.proofs.fields.store_signed.Goals as goal

pub returns : goal.returns
returns c =
    let stored = next_number (first_number c.args.out.now c.args.at 1 c.args.tag c.write_u8_at.ensures.out_after) 8 (of_z w64 c.args.z) (omega arith) (c.write_i64_at.ensures.out_after ∙ ap (λ (z : ℤ). overwrite c.write_u8_at.new.out (c.args.at + 1) (u64 (of_z w64 z))) (to_z-of_z c.ranges.z)) in
    stored.is ∙ ap (λ (x : List ℕ). overwrite c.args.out.now c.args.at (x ++ u64 (of_z w64 c.args.z))) (one_byte c.args.tag c.ranges.tag.fits)
